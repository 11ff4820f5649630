-- Small texts, with the tokens that they spell or the fault that they have.
use Rattle.std.specs.Prelude.{true, false, ◌∷◌, [], ◌++◌, codes}
use Rattle.c0_source.specs.declared.kind.Kind.TheVariants as k
use Rattle.c0_source.specs.declared.kind.Operator.TheVariants as o
use Rattle.c0_source.specs.declared.kind.Base.TheVariants as b
use Rattle.c0_source.specs.declared.kind.Clause.TheVariants as c
use Rattle.c0_source.specs.declared.fault.FaultKind.TheVariants as f
use Rattle.c0_source.specs.Spelling.{Stops}
use Rattle.c0_source.specs.Terminals.{Word, Text, Use, Sign}
use Rattle.c0_source.specs.Laws.{SpellsAs}

-- texts without a fault
pub record WorkedSpellings : Type 0 where
  -- a whole program; 2^31 is a number
  pub program : SpellsAs (codes "int main() { return 2147483648; }") (Sign (k.Base b.Int) ∷ Word (codes "main") ∷ Sign k.LParen ∷ Sign k.RParen ∷ Sign k.LBrace ∷ Sign k.Return ∷ Sign (k.Number 2147483648) ∷ Sign k.Semi ∷ Sign k.RBrace ∷ [])
  -- hexadecimal numbers go up to 2^32 - 1
  pub hexadecimal : SpellsAs (codes "0xFFFFffff 0X1 0") (Sign (k.Number 4294967295) ∷ Sign (k.Number 1) ∷ Sign (k.Number 0) ∷ [])
  -- the longest token stands first
  pub longest : SpellsAs (codes "a+++b>>=c->d") (Word (codes "a") ∷ Sign k.PlusPlus ∷ Sign (k.Infix o.Add) ∷ Word (codes "b") ∷ Sign (k.Update o.ShiftRight) ∷ Word (codes "c") ∷ Sign k.Arrow ∷ Word (codes "d") ∷ [])
  -- `alloc` and `alloc_array` are keywords, `alloc_arrays` is a name
  pub alloc : SpellsAs (codes "alloc alloc_array alloc_arrays") (Sign k.Alloc ∷ Sign k.AllocArray ∷ Word (codes "alloc_arrays") ∷ [])
  -- an annotation of a line ends at the text's end
  pub line_at_end : SpellsAs (codes "//@requires x; // y") (Sign k.Begin ∷ Sign (k.Clause c.Requires) ∷ Word (codes "x") ∷ Sign k.Semi ∷ Sign k.End ∷ [])
  -- ... and with its line: outside annotations `ensures` is a name
  pub line : SpellsAs (codes "//@ensures" ++ 10 ∷ codes "ensures") (Sign k.Begin ∷ Sign (k.Clause c.Ensures) ∷ Sign k.End ∷ Word (codes "ensures") ∷ [])
  -- a block comment in an annotation hides an `@*/`
  pub block : SpellsAs (codes "/*@\\result/*@*/;@*/") (Sign k.Begin ∷ Sign k.Result ∷ Sign k.Semi ∷ Sign k.End ∷ [])
  -- a comment to the line's end in an annotation hides one, too
  pub hidden : SpellsAs (codes "/*@//@*/" ++ 10 ∷ codes "\\length@*/") (Sign k.Begin ∷ Sign k.Length ∷ Sign k.End ∷ [])
  -- `\resultx` is `\result` and a name
  pub result : SpellsAs (codes "//@\\resultx") (Sign k.Begin ∷ Sign k.Result ∷ Word (codes "x") ∷ Sign k.End ∷ [])
  -- comments stand in one another
  pub nested : SpellsAs (codes "a/*/*/*b*/*/*/c") (Word (codes "a") ∷ Word (codes "c") ∷ [])
  -- `#use` with a name, a text with an escape, the character 0
  pub literals : SpellsAs (35 ∷ codes "use <conio>" ++ 34 ∷ codes "a\\n" ++ 34 ∷ 39 ∷ 92 ∷ 48 ∷ 39 ∷ []) (Use true (codes "conio") ∷ Text (97 ∷ 10 ∷ []) ∷ Sign (k.Character 0) ∷ [])
  -- `#use` with a text, and no blank before it
  pub use_text : SpellsAs (35 ∷ codes "use" ++ 34 ∷ codes "a.h" ++ 34 ∷ []) (Use false (codes "a.h") ∷ [])
  -- a division, and a comment to the text's end
  pub slash : SpellsAs (codes "a/b/=2//c") (Word (codes "a") ∷ Sign (k.Infix o.Divide) ∷ Word (codes "b") ∷ Sign (k.Update o.Divide) ∷ Sign (k.Number 2) ∷ [])

-- texts with a fault, and where that stands
pub record WorkedFaults : Type 0 where
  -- a comment in a comment, of which one is closed
  pub open_comment : Stops (codes "/* /* */ int main() { return 0; }") f.OpenComment 0
  -- a number out of range stands at its first digit
  pub range : Stops (codes "int main() { return 2147483649; }") f.BadToken 20
  -- a hexadecimal number out of range
  pub hexadecimal_range : Stops (codes "0x100000000") f.BadToken 0
  -- a number that a letter follows
  pub letter_behind : Stops (codes "x = 12a;") f.BadToken 4
  -- `0x` is no number, and neither is a number that begins with 0
  pub no_digits : Stops (codes "0x") f.BadToken 0
  pub leading_zero : Stops (codes "07") f.BadToken 0
  -- `*/` closes no annotation
  pub open_annotation : Stops (codes "x /*@*/") f.OpenComment 2
  -- an annotation is told before the comment in it
  pub comment_inside : Stops (codes "x /*@/*@") f.OpenComment 2
  pub comment_behind : Stops (codes "x /*@ /* @*/") f.OpenComment 2
  -- bytes that are no token are told before the annotation that isn't closed
  pub bad_inside : Stops (codes "x /*@ @") f.BadToken 6
  -- `\result` outside annotations
  pub outside : Stops (codes "x \\result") f.BadToken 2
  -- a text with a newline stands at its opening quote
  pub newline_in_text : Stops (32 ∷ 34 ∷ 97 ∷ 10 ∷ 34 ∷ []) f.BadToken 1
  -- `\0` stands in characters alone
  pub zero_in_text : Stops (34 ∷ 92 ∷ 48 ∷ 34 ∷ []) f.BadToken 0
