-- Which texts are which token, and which tokens a text spells.
use Rattle.std.specs.Prelude.{◌≡◌, ℕ, suc, ◌+◌, ◌-◌, ◌*◌, ◌^◌, ◌<◌, ◌≤◌, Bool, true, false, not, ◌&&◌, ◌||◌, if◌then◌else◌, ◌==◌, nat_lt, nat_le, List, [], ◌∷◌, ◌++◌, length, take, drop, Option, Some, None, codes}
use Rattle.std.specs.Str.{bytes_eq}
use Rattle.c0_source.specs.declared.kind.Kind.{Kind}
use Rattle.c0_source.specs.declared.kind.Kind.TheVariants as k
use Rattle.c0_source.specs.declared.kind.Operator.TheVariants as o
use Rattle.c0_source.specs.declared.kind.Base.TheVariants as b
use Rattle.c0_source.specs.declared.kind.Clause.TheVariants as c
use Rattle.c0_source.specs.declared.kind.Mode.{Mode}
use Rattle.c0_source.specs.declared.kind.Mode.TheVariants as m
use Rattle.c0_source.specs.declared.kind.Piece.{Piece}
use Rattle.c0_source.specs.declared.kind.Piece.TheVariants as p
use Rattle.c0_source.specs.declared.fault.FaultKind.{FaultKind}
use Rattle.c0_source.specs.declared.fault.FaultKind.TheVariants as f
use Rattle.c0_source.specs.Bytes.{is_blank, is_digit, is_hex, is_letter, is_word, not_newline, is_printable, all_of, escape}

-- Whole texts: what is this, from its first byte to its last?

-- a piece, where a test holds
abbrev pub when : Bool → Piece → Option Piece
when b what = if b then Some what else None

-- texts, and what each of them is
abbrev pub Table : Type 0
Table = List (List ℕ × Kind)

-- what a text is by a table, where it stands there
abbrev pub lookup : Table → List ℕ → Option Kind
lookup [] text = None
lookup (s ∷ ss) text = if bytes_eq s.0 text then Some s.1 else lookup ss text

-- keywords
abbrev pub keywords : Table
keywords =
    (codes "int", k.Base b.Int) ∷ (codes "bool", k.Base b.Bool) ∷ (codes "char", k.Base b.Char) ∷ (codes "string", k.Base b.String) ∷ (codes "void", k.Base b.Void)
    ∷ (codes "struct", k.Struct) ∷ (codes "typedef", k.Typedef) ∷ (codes "if", k.If) ∷ (codes "else", k.Else) ∷ (codes "while", k.While) ∷ (codes "for", k.For)
    ∷ (codes "return", k.Return) ∷ (codes "assert", k.Assert) ∷ (codes "error", k.Error) ∷ (codes "true", k.Truth true) ∷ (codes "false", k.Truth false)
    ∷ (codes "NULL", k.Null) ∷ (codes "alloc", k.Alloc) ∷ (codes "alloc_array", k.AllocArray) ∷ (codes "break", k.Break) ∷ (codes "continue", k.Continue) ∷ []

-- keywords of annotations alone
abbrev pub clauses : Table
clauses = (codes "requires", k.Clause c.Requires) ∷ (codes "ensures", k.Clause c.Ensures) ∷ (codes "loop_invariant", k.Clause c.LoopInvariant) ∷ []

-- a word that is no keyword is a name
abbrev pub or_name : Option Kind → Kind
or_name None = k.Name
or_name (Some kind) = kind

-- the keywords of a mode
abbrev pub words_of : Mode → Table
words_of m.Plain = keywords
words_of _ = clauses ++ keywords

-- what a word is: a keyword or a name
unfoldable pub word_kind : Mode → List ℕ → Kind
word_kind mode text = or_name (lookup (words_of mode) text)

-- the value of decimal digits behind those of `n`
abbrev pub value_from : ℕ → List ℕ → ℕ
value_from n [] = n
value_from n (b ∷ bs) = value_from (10 * n + (b - 48)) bs

-- the value of a hexadecimal digit
abbrev pub hex_digit : ℕ → ℕ
hex_digit b = if nat_le 97 b then b - 87 else (if nat_le 65 b then b - 55 else b - 48)

-- the value of hexadecimal digits behind those of `n`
abbrev pub hex_from : ℕ → List ℕ → ℕ
hex_from n [] = n
hex_from n (b ∷ bs) = hex_from (16 * n + hex_digit b) bs

-- a decimal number of one digit at least, that doesn't begin with 0 unless it is 0
abbrev pub decimal_of : ℕ → List ℕ → Option Piece
decimal_of b bs =
    if all_of is_digit bs && (not (b == 48) || length bs == 0) && nat_le (value_from 0 (b ∷ bs)) (2 ^ 31) then Some (p.Token (k.Number (value_from 0 (b ∷ bs)))) else None

-- what follows `0x`
abbrev pub hex_of : List ℕ → Option Piece
hex_of [] = None
hex_of (b ∷ bs) = if all_of is_hex (b ∷ bs) && nat_lt (hex_from 0 (b ∷ bs)) (2 ^ 32) then Some (p.Token (k.Number (hex_from 0 (b ∷ bs)))) else None

-- a number, from its first digit and what follows that
abbrev pub number_of : ℕ → List ℕ → Option Piece
number_of b [] = decimal_of b []
number_of b (x ∷ bs) = if b == 48 && (x == 120 || x == 88) then hex_of bs else decimal_of b (x ∷ bs)

-- The text closes this comment and `d` more, the last one at its end. `before` is the byte before, or 0 where it is used up.
abbrev pub closes : ℕ → ℕ → List ℕ → Bool
closes d before [] = false
closes d before (b ∷ bs) =
    if before == 42 && b == 47 then (if d == 0 then length bs == 0 else closes (d - 1) 0 bs)
    else (if before == 47 && b == 42 then closes (suc d) 0 bs else closes d b bs)

-- `@` begins an annotation outside of annotations alone
abbrev pub begins_annotation : Mode → List ℕ → Bool
begins_annotation m.Plain (b ∷ bs) = b == 64
begins_annotation _ _ = false

-- what begins with `/`: a comment, the opening of an annotation, `/` or `/=`
abbrev pub slash_of : Mode → List ℕ → Option Piece
slash_of mode [] = Some (p.Token (k.Infix o.Divide))
slash_of mode (b ∷ bs) =
    if b == 47 then (if begins_annotation mode bs then when (length bs == 1) (p.Opens m.Line) else when (all_of not_newline bs) p.Gap)
    else (if b == 42 then (if begins_annotation mode bs then when (length bs == 1) (p.Opens m.Block) else when (closes 0 0 bs) p.Gap)
    else (if b == 61 then when (length bs == 0) (p.Token (k.Update o.Divide)) else None))

-- a byte and the bytes behind it, where both are there
abbrev pub with_byte : Option ℕ → Option (List ℕ) → Option (List ℕ)
with_byte (Some b) (Some bs) = Some (b ∷ bs)
with_byte _ _ = None

-- the value of a text behind its opening quote; `after` tells that the byte before was a `\`
abbrev pub text_value : Bool → List ℕ → Option (List ℕ)
text_value after [] = None
text_value true (b ∷ bs) = with_byte (escape b) (text_value false bs)
text_value false (b ∷ bs) =
    if b == 34 then (if length bs == 0 then Some [] else None)
    else (if b == 92 then text_value true bs else (if is_printable b then with_byte (Some b) (text_value false bs) else None))

-- the value of a character behind its opening quote
abbrev pub letter_value : List ℕ → Option ℕ
letter_value (b ∷ q ∷ []) = if q == 39 && is_printable b && not (b == 39) && not (b == 92) then Some b else None
letter_value (s ∷ b ∷ q ∷ []) = if q == 39 && s == 92 then (if b == 48 then Some 0 else escape b) else None
letter_value _ = None

-- a name and `>`
abbrev pub angled : List ℕ → List ℕ → Option (Bool × List ℕ)
angled name [] = None
angled name (b ∷ bs) = if b == 62 then (if length bs == 0 && not (length name == 0) then Some (true, name) else None) else (if is_word b && not (length name == 0 && is_digit b) then angled (name ++ b ∷ []) bs else None)

-- a text as what is used
abbrev pub quoted : Option (List ℕ) → Option (Bool × List ℕ)
quoted None = None
quoted (Some text) = Some (false, text)

-- what is used, behind `#use`: true where it stands between `<` and `>`
abbrev pub use_value : List ℕ → Option (Bool × List ℕ)
use_value [] = None
use_value (b ∷ bs) =
    if is_blank b && not_newline b then use_value bs
    else (if b == 60 then angled [] bs else (if b == 34 then quoted (text_value false bs) else None))

-- what `use` and the rest of a `#use` name, behind its `#`
abbrev pub use_of : List ℕ → Option (Bool × List ℕ)
use_of (u ∷ s ∷ e ∷ bs) = if bytes_eq (u ∷ s ∷ e ∷ []) (codes "use") then use_value bs else None
use_of _ = None

-- whether there is a value
abbrev pub is_some : {A : Type 0} → Option A → Bool
is_some None = false
is_some (Some x) = true

-- a character as a token, where it has a value
abbrev pub letter_piece : Option ℕ → Option Piece
letter_piece None = None
letter_piece (Some c) = Some (p.Token (k.Character c))

-- `\result` and `\length`, in annotations
abbrev pub backslash_of : Mode → List ℕ → Option Piece
backslash_of m.Plain bs = None
backslash_of _ bs = if bytes_eq bs (codes "result") then Some (p.Token k.Result) else when (bytes_eq bs (codes "length")) (p.Token k.Length)

-- the end of an annotation
abbrev pub at_of : Mode → List ℕ → Option Piece
at_of m.Block bs = when (bytes_eq bs (codes "*/")) (p.Token k.End)
at_of _ bs = None

-- a newline ends an annotation of a line, and is a blank elsewhere
abbrev pub newline_of : Mode → Piece
newline_of m.Line = p.Token k.End
newline_of _ = p.Gap

-- signs that don't begin with `/`, the longer ones first
abbrev pub signs : Table
signs =
    (codes "<<=", k.Update o.ShiftLeft) ∷ (codes ">>=", k.Update o.ShiftRight) ∷ (codes "->", k.Arrow) ∷ (codes "++", k.PlusPlus) ∷
    (codes "--", k.MinusMinus) ∷ (codes "||", k.Infix o.Or) ∷ (codes "&&", k.Infix o.And) ∷ (codes "==", k.Infix o.Equal) ∷ (codes "!=", k.Infix o.NotEqual) ∷
    (codes "<=", k.Infix o.LessEqual) ∷ (codes ">=", k.Infix o.GreaterEqual) ∷ (codes "<<", k.Infix o.ShiftLeft) ∷ (codes ">>", k.Infix o.ShiftRight) ∷
    (codes "+=", k.Update o.Add) ∷ (codes "-=", k.Update o.Subtract) ∷ (codes "*=", k.Update o.Multiply) ∷ (codes "%=", k.Update o.Modulo) ∷
    (codes "&=", k.Update o.BitAnd) ∷ (codes "^=", k.Update o.BitXor) ∷ (codes "|=", k.Update o.BitOr) ∷ (codes "(", k.LParen) ∷ (codes ")", k.RParen) ∷
    (codes "{", k.LBrace) ∷ (codes "}", k.RBrace) ∷ (codes "[", k.LBracket) ∷ (codes "]", k.RBracket) ∷ (codes ";", k.Semi) ∷ (codes ",", k.Comma) ∷
    (codes ".", k.Dot) ∷ (codes "?", k.Question) ∷ (codes ":", k.Colon) ∷ (codes "!", k.Bang) ∷ (codes "~", k.Tilde) ∷ (codes "=", k.Assign) ∷
    (codes "|", k.Infix o.BitOr) ∷ (codes "^", k.Infix o.BitXor) ∷ (codes "&", k.Infix o.BitAnd) ∷ (codes "<", k.Infix o.Less) ∷ (codes ">", k.Infix o.Greater) ∷
    (codes "+", k.Infix o.Add) ∷ (codes "-", k.Infix o.Subtract) ∷ (codes "*", k.Infix o.Multiply) ∷ (codes "%", k.Infix o.Modulo) ∷
    []

-- a kind of token as a piece
abbrev pub token_of : Option Kind → Option Piece
token_of None = None
token_of (Some kind) = Some (p.Token kind)

-- what a sign is
unfoldable pub sign_of : List ℕ → Option Piece
sign_of text = token_of (lookup signs text)

-- what a text is in this mode, by its first byte
abbrev pub begun_by : Mode → ℕ → List ℕ → Option Piece
begun_by mode b bs =
    if is_blank b then when (length bs == 0) (if b == 10 then newline_of mode else p.Gap)
    else (if is_letter b then when (all_of is_word bs) (p.Token (word_kind mode (b ∷ bs)))
    else (if is_digit b then number_of b bs
    else (if b == 47 then slash_of mode bs
    else (if b == 34 then when (is_some (text_value false bs)) (p.Token k.Text)
    else (if b == 39 then letter_piece (letter_value bs)
    else (if b == 92 then backslash_of mode bs
    else (if b == 35 then when (is_some (use_of bs)) (p.Token k.Use)
    else (if b == 64 then at_of mode bs
    else sign_of (b ∷ bs)))))))))

-- what a text is in this mode, all of it
abbrev pub piece_of : Mode → List ℕ → Option Piece
piece_of mode [] = None
piece_of mode (b ∷ bs) = begun_by mode b bs

-- Cutting a text into pieces, the longest first.

-- a letter, a digit or `_` stands first
abbrev pub begins_word : List ℕ → Bool
begins_word [] = false
begins_word (b ∷ bs) = is_word b

-- a `*` stands first
abbrev pub begins_star : List ℕ → Bool
begins_star [] = false
begins_star (b ∷ bs) = b == 42

-- a number isn't followed at once by a letter, a digit or `_`, and `/` not by `*`
abbrev pub apart : Piece → List ℕ → Bool
apart (p.Token (k.Number n)) rest = not (begins_word rest)
apart (p.Token (k.Infix o.Divide)) rest = not (begins_star rest)
apart _ rest = true

-- The longest piece at the front of these bytes, in this mode, is this one of `n` bytes.
pub record Cut (mode : Mode) (bytes : List ℕ) (n : ℕ) (what : Piece) : Type 0 where
  pub some : 0 < n
  pub within : n ≤ length bytes
  pub shape : piece_of mode (take n bytes) ≡ Some what
  pub longest : (m : ℕ) → n < m → m ≤ length bytes → piece_of mode (take m bytes) ≡ None
  pub stands : apart what (drop n bytes) ≡ true

-- the mode behind a piece
abbrev pub after : Mode → Piece → Mode
after mode (p.Opens next) = next
after mode (p.Token k.End) = m.Plain
after mode _ = mode

-- a token: what it is, its bytes, and how many bytes stand before them
pub record Lexeme : Type 0 where
  pub kind : Kind
  pub text : List ℕ
  pub start : ℕ

-- the kind of the token that a piece is; a blank or a comment is none
abbrev pub kind_of_piece : Piece → Option Kind
kind_of_piece p.Gap = None
kind_of_piece (p.Opens mode) = Some k.Begin
kind_of_piece (p.Token kind) = Some kind

-- one more token, in front of others
abbrev pub add_lexeme : Option Kind → List ℕ → ℕ → List Lexeme → List Lexeme
add_lexeme None text at ts = ts
add_lexeme (Some kind) text at ts = record { kind = kind; text = text; start = at } ∷ ts

-- pieces by their lengths, one behind the other
abbrev pub Pieces : Type 0
Pieces = List (ℕ × Piece)

-- the tokens among these pieces of a text that begins at `at`
abbrev pub lexemes : ℕ → List ℕ → Pieces → List Lexeme
lexemes at bytes [] = []
lexemes at bytes (x ∷ ps) = add_lexeme (kind_of_piece x.1) (take x.0 bytes) at (lexemes (at + x.0) (drop x.0 bytes) ps)

-- These pieces lead from one mode and text to another.
abbrev pub Leads : Mode → List ℕ → Pieces → Mode → List ℕ → Type 0
Leads mode bytes [] last rest = (mode ≡ last) × (bytes ≡ rest)
Leads mode bytes (x ∷ ps) last rest = Cut mode bytes x.0 x.1 × Leads (after mode x.1) (drop x.0 bytes) ps last rest

-- an annotation of a line ends at the text's end, too
abbrev pub Ends : Mode → Type 0
Ends m.Block = ⊥
Ends _ = Unit {0}

-- the END of an annotation that the end of the text ends: a token of no bytes
abbrev pub ending : Mode → ℕ → List Lexeme
ending m.Line at = record { kind = k.End; text = []; start = at } ∷ []
ending _ at = []

-- These bytes spell these tokens: they are cut into pieces to their end, and the tokens are those among the pieces.
pub record Spells (bytes : List ℕ) (ts : List Lexeme) : Type 0 where
  pub pieces : Pieces
  pub last : Mode
  pub leads : Leads m.Plain bytes pieces last []
  pub ends : Ends last
  pub tokens : ts ≡ lexemes 0 bytes pieces ++ ending last (length bytes)

-- Faults.

-- `/*` stands first
abbrev pub begins_comment : List ℕ → Bool
begins_comment (a ∷ b ∷ bs) = a == 47 && b == 42
begins_comment _ = false

-- no piece stands at the front of these bytes
abbrev pub NoCut : Mode → List ℕ → Type 0
NoCut mode bytes = (n : ℕ) (what : Piece) → Cut mode bytes n what → ⊥

-- the opening of an annotation, where this piece at `at` is one
abbrev pub opening_by : Piece → ℕ → ℕ → ℕ
opening_by (p.Opens mode) at so_far = at
opening_by _ at so_far = so_far

-- where the last annotation among these pieces of a text opens, for a text that begins at `at`
abbrev pub opening : ℕ → ℕ → Pieces → ℕ
opening so_far at [] = so_far
opening so_far at (x ∷ ps) = opening (opening_by x.1 at so_far) (at + x.0) ps

-- how many bytes these pieces have
abbrev pub extent : Pieces → ℕ
extent [] = 0
extent (x ∷ ps) = x.0 + extent ps

-- Why no piece follows these, which leave `rest`, and where the fault stands: bytes that are no token stand at themselves, an open comment
-- at its `/*`. An annotation that is never closed is the fault's place also where a comment in it isn't closed. A text has no other fault.
abbrev pub Cause : FaultKind → ℕ → Mode → Pieces → List ℕ → Type 0
Cause f.BadToken at mode ps rest = (at ≡ extent ps) × (0 < length rest) × NoCut mode rest × (begins_comment rest ≡ false)
Cause f.OpenComment at m.Block ps rest = (at ≡ opening 0 0 ps) × NoCut m.Block rest × ((0 < length rest) → begins_comment rest ≡ true)
Cause f.OpenComment at mode ps rest = (at ≡ extent ps) × NoCut mode rest × (begins_comment rest ≡ true)
Cause _ at mode ps rest = ⊥

-- These bytes spell no tokens: they have this fault at this place, behind pieces that they are cut into.
pub record Stops (bytes : List ℕ) (fault : FaultKind) (at : ℕ) : Type 0 where
  pub pieces : Pieces
  pub last : Mode
  pub rest : List ℕ
  pub leads : Leads m.Plain bytes pieces last rest
  pub cause : Cause fault at last pieces rest

-- the token of no bytes that stands behind all others, where a text ends at `at`
abbrev pub end_at : ℕ → Lexeme
end_at at = record { kind = k.EndOfText; text = []; start = at }

-- ... and at the end of this text
abbrev pub end_of_text : List ℕ → Lexeme
end_of_text bytes = end_at (length bytes)

-- Each token's bytes are those of the text at its start.
abbrev pub AreSlices : List ℕ → List Lexeme → Type 0
AreSlices bytes [] = Unit {0}
AreSlices bytes (t ∷ ts) = (t.text ≡ take (length t.text) (drop t.start bytes)) × AreSlices bytes ts

-- No token begins before `from`, nor before the end of the token in front of it, and none ends behind `end`.
abbrev pub Rise : ℕ → ℕ → List Lexeme → Type 0
Rise from end [] = from ≤ end
Rise from end (t ∷ ts) = (from ≤ t.start) × Rise (t.start + length t.text) end ts
