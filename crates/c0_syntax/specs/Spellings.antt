-- How each token is written.
use Rattle.std.specs.Prelude.{ℕ, Bool, true, false, ◌||◌, if◌then◌else◌, ◌==◌, nat_le, nat_lt, ◌^◌, List, [], ◌∷◌, ◌++◌, codes}
use Rattle.std.specs.Fmt.{decimal, digits}
use Rattle.c0_source.specs.declared.kind.Kind.{Kind}
use Rattle.c0_source.specs.declared.kind.Kind.TheVariants as k
use Rattle.c0_source.specs.declared.kind.Operator.{Operator}
use Rattle.c0_source.specs.declared.kind.Operator.TheVariants as o
use Rattle.c0_source.specs.declared.kind.Base.{Base}
use Rattle.c0_source.specs.declared.kind.Base.TheVariants as b
use Rattle.c0_source.specs.declared.kind.Clause.{Clause}
use Rattle.c0_source.specs.declared.kind.Clause.TheVariants as c
use Rattle.c0_source.specs.Terminals.{Terminal, Word, Text, Use, Sign}

-- an operator between two operands
abbrev pub operator_text : Operator → List ℕ
operator_text o.Or = codes "||"
operator_text o.And = codes "&&"
operator_text o.BitOr = codes "|"
operator_text o.BitXor = codes "^"
operator_text o.BitAnd = codes "&"
operator_text o.Equal = codes "=="
operator_text o.NotEqual = codes "!="
operator_text o.Less = codes "<"
operator_text o.LessEqual = codes "<="
operator_text o.Greater = codes ">"
operator_text o.GreaterEqual = codes ">="
operator_text o.ShiftLeft = codes "<<"
operator_text o.ShiftRight = codes ">>"
operator_text o.Add = codes "+"
operator_text o.Subtract = codes "-"
operator_text o.Multiply = codes "*"
operator_text o.Divide = codes "/"
operator_text o.Modulo = codes "%"

-- a type's keyword
abbrev pub base_text : Base → List ℕ
base_text b.Int = codes "int"
base_text b.Bool = codes "bool"
base_text b.Char = codes "char"
base_text b.String = codes "string"
base_text b.Void = codes "void"

-- a spec's keyword
abbrev pub clause_text : Clause → List ℕ
clause_text c.Requires = codes "requires"
clause_text c.Ensures = codes "ensures"
clause_text c.LoopInvariant = codes "loop_invariant"

-- `true` or `false`
abbrev pub truth_text : Bool → List ℕ
truth_text true = codes "true"
truth_text false = codes "false"

-- What stands for a byte in a text or as a character: the escape for it where there is one, and else the byte. For one over 127, which no
-- text of the language has, `?`.
abbrev pub escaped : ℕ → List ℕ
escaped b =
    if b == 0 then codes "\\0" else (if b == 10 then codes "\\n" else (if b == 9 then codes "\\t" else (if b == 11 then codes "\\v" else (if b == 8 then codes "\\b"
    else (if b == 13 then codes "\\r" else (if b == 12 then codes "\\f" else (if b == 7 then codes "\\a" else (if b == 92 || b == 39 || b == 34 then 92 ∷ b ∷ [] else (if nat_lt b 128 then b ∷ [] else codes "?")))))))))

-- ... of each byte
abbrev pub all_escaped : List ℕ → List ℕ
all_escaped [] = []
all_escaped (b ∷ bs) = escaped b ++ all_escaped bs

-- a text in its quotes
abbrev pub quoted_text : List ℕ → List ℕ
quoted_text bs = 34 ∷ all_escaped bs ++ 34 ∷ []

-- a character in its quotes
abbrev pub character_text : ℕ → List ℕ
character_text c = 39 ∷ escaped c ++ 39 ∷ []

-- a number: decimal up to 2^31, as far as there are such tokens, and else hexadecimal
abbrev pub number_text : ℕ → List ℕ
number_text n = if nat_le n (2 ^ 31) then decimal n else codes "0x" ++ digits 16 false n

-- a token that always has the same bytes; none where it hasn't
abbrev pub fixed_text : Kind → List ℕ
fixed_text k.Null = codes "NULL"
fixed_text k.Struct = codes "struct"
fixed_text k.Typedef = codes "typedef"
fixed_text k.If = codes "if"
fixed_text k.Else = codes "else"
fixed_text k.While = codes "while"
fixed_text k.For = codes "for"
fixed_text k.Return = codes "return"
fixed_text k.Assert = codes "assert"
fixed_text k.Error = codes "error"
fixed_text k.Alloc = codes "alloc"
fixed_text k.AllocArray = codes "alloc_array"
fixed_text k.Break = codes "break"
fixed_text k.Continue = codes "continue"
fixed_text k.Result = codes "\\result"
fixed_text k.Length = codes "\\length"
fixed_text k.Begin = codes "/*@"
fixed_text k.End = codes "@*/"
fixed_text k.LParen = codes "("
fixed_text k.RParen = codes ")"
fixed_text k.LBrace = codes "{"
fixed_text k.RBrace = codes "}"
fixed_text k.LBracket = codes "["
fixed_text k.RBracket = codes "]"
fixed_text k.Semi = codes ";"
fixed_text k.Comma = codes ","
fixed_text k.Dot = codes "."
fixed_text k.Arrow = codes "->"
fixed_text k.Question = codes "?"
fixed_text k.Colon = codes ":"
fixed_text k.Bang = codes "!"
fixed_text k.Tilde = codes "~"
fixed_text k.Assign = codes "="
fixed_text k.PlusPlus = codes "++"
fixed_text k.MinusMinus = codes "--"
fixed_text _ = []

-- a token by its kind
abbrev pub kind_text : Kind → List ℕ
kind_text (k.Number n) = number_text n
kind_text (k.Character c) = character_text c
kind_text (k.Truth truth) = truth_text truth
kind_text (k.Base base) = base_text base
kind_text (k.Clause clause) = clause_text clause
kind_text (k.Infix op) = operator_text op
kind_text (k.Update op) = operator_text op ++ codes "="
kind_text kind = fixed_text kind

-- a `#use`
abbrev pub use_text : Bool → List ℕ → List ℕ
use_text true x = codes "#use <" ++ x ++ codes ">"
use_text false x = codes "#use " ++ quoted_text x

-- a token by what the grammar sees of it
abbrev pub spelling : Terminal → List ℕ
spelling (Word x) = x
spelling (Text bs) = quoted_text bs
spelling (Use angle x) = use_text angle x
spelling (Sign kind) = kind_text kind
