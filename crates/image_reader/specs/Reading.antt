-- What bytes say, read from the left: a value and the bytes behind it, or the first thing that is wrong.
use Rattle.std.specs.Prelude.{ℕ, zero, suc, ℤ, Bool, ◌==◌, nat_lt, List, [], ◌∷◌, length, take, drop, Option, Some, None, Result, Ok, Err, if◌then◌else◌}
use Rattle.std.specs.Int.{w16, w32, from_le_bytes, cast_signed}
use Rattle.cells.specs.Pieces.{is_piece}
use Rattle.code_form.specs.declared.form.Kind.{Kind}
use Rattle.code_form.specs.declared.form.Kind.TheVariants as k
use Rattle.code_form.specs.declared.form.Fact.{Fact}
use Rattle.code_form.specs.declared.form.Fact.TheVariants.{Nonnull, Inside, Aimed, Shut}
use Rattle.code_form.specs.Form as form
use Rattle.code_form.specs.Form.{Instruction, Image}
use Rattle.instruction_table.specs.declared.fault.ImageFault.{ImageFault}
use Rattle.instruction_table.specs.declared.fault.ImageFault.TheVariants.{Short, Magic, Version, BadOp, BadOperand, Trailing}
use Rattle.instruction_table.specs.declared.name.Name.{Name}
use Rattle.instruction_table.specs.declared.operand.Operand.{Operand}
use Rattle.instruction_table.specs.declared.operand.Operand.TheVariants.{Register, OptionalRegister, Scope, Block, Function, Layout, TextNumber, Number, Integer, Truth, Character, Registers}
use Rattle.instruction_table.specs.Table.{Value, Values, cases_of, made, name_with}

-- how a value is read
abbrev pub Reading : Type 0 → Type 0
Reading A = List ℕ → Result (A × List ℕ) ImageFault

infixl 10 ◌>>=◌
-- what follows a value, unless something is wrong
abbrev pub ◌>>=◌ : {A B : Type 0} → Result A ImageFault → (A → Result B ImageFault) → Result B ImageFault
(Ok x) >>= f = f x
(Err e) >>= f = Err e

-- a value that no byte is read for
abbrev pub given : {A : Type 0} → A → Reading A
given x bytes = Ok (x, bytes)

-- a value by another that is read
abbrev pub mapped : {A B : Type 0} → (A → B) → Reading A → Reading B
mapped f r bytes = r bytes >>= λ x. Ok (f x.0, x.1)

-- two values, one behind the other
abbrev pub pair_at : {A B : Type 0} → Reading A → Reading B → Reading (A × B)
pair_at p q bytes = p bytes >>= λ x. q x.1 >>= λ y. Ok ((x.0, y.0), y.1)

-- a value for which a test holds
abbrev pub tested : {A : Type 0} → (A → Bool) → ImageFault → Reading A → Reading A
tested test fault r bytes = r bytes >>= λ x. if test x.0 then Ok x else Err fault

-- a byte
unfoldable pub byte_at : Reading ℕ
byte_at [] = Err Short
byte_at (b ∷ bytes) = Ok (b, bytes)

-- a number of four bytes
unfoldable pub number_at : Reading ℕ
number_at bytes = if nat_lt (length bytes) 4 then Err Short else Ok (from_le_bytes w32 (take 4 bytes), drop 4 bytes)

-- a number of two bytes
unfoldable pub half_at : Reading ℕ
half_at bytes = if nat_lt (length bytes) 2 then Err Short else Ok (from_le_bytes w16 (take 2 bytes), drop 2 bytes)

-- so many values, one behind the other
unfoldable pub items_at : {A : Type 0} → Reading A → ℕ → Reading (List A)
items_at r zero bytes = Ok ([], bytes)
items_at r (suc n) bytes = r bytes >>= λ x. items_at r n x.1 >>= λ xs. Ok (x.0 ∷ xs.0, xs.1)

-- a list: its count, and so many items
unfoldable pub list_at : {A : Type 0} → Reading A → Reading (List A)
list_at r bytes = number_at bytes >>= λ n. items_at r n.0 n.1

-- what stands behind a tag: the first of these with this tag tells how it is read
abbrev pub behind : {A : Type 0} → List (ℕ × Reading A) → ℕ → Reading A
behind [] tag bytes = Err BadOperand
behind (c ∷ cs) tag bytes = if tag == c.0 then c.1 bytes else behind cs tag bytes

-- a tag, and what stands behind it
abbrev pub tagged : {A : Type 0} → List (ℕ × Reading A) → Reading A
tagged cases bytes = byte_at bytes >>= λ tag. behind cases tag.0 tag.1

-- a register; 2^32 - 1 is none
abbrev pub register_or_none : ℕ → Option ℕ
register_or_none n = if n == 4294967295 then None else Some n

-- a register, or none
unfoldable pub optional_at : Reading (Option ℕ)
optional_at bytes = mapped register_or_none number_at bytes

-- a number with a sign
unfoldable pub integer_at : Reading ℤ
integer_at bytes = mapped (cast_signed w32) number_at bytes

-- a truth value, which is 0 or 1
unfoldable pub truth_at : Reading Bool
truth_at bytes = mapped (λ b. b == 1) (tested (λ b. nat_lt b 2) BadOperand byte_at) bytes

-- a character of ASCII
unfoldable pub letter_at : Reading ℕ
letter_at bytes = tested (λ b. nat_lt b 128) BadOperand byte_at bytes

-- the kinds that cells have
abbrev pub cell_cases : List (ℕ × Reading Kind)
cell_cases =
    (1, given k.Int)
    ∷ (2, given k.Bool)
    ∷ (3, given k.Char)
    ∷ (4, given k.Text)
    ∷ (5, mapped k.Ptr number_at)
    ∷ (6, mapped k.Arr number_at)
    ∷ []

-- the kinds that registers have
abbrev pub kind_cases : List (ℕ × Reading Kind)
kind_cases = (7, mapped k.Off number_at) ∷ cell_cases

-- the kind of a cell
unfoldable pub cell_at : Reading Kind
cell_at bytes = tagged cell_cases bytes

-- the kind of a register
unfoldable pub kind_at : Reading Kind
kind_at bytes = tagged kind_cases bytes

-- the kind of a result, or that there is none
unfoldable pub result_at : Reading (Option Kind)
result_at [] = mapped Some kind_at []
result_at (zero ∷ bytes) = Ok (None, bytes)
result_at (suc tag ∷ bytes) = mapped Some kind_at (suc tag ∷ bytes)

-- where a scope is aimed: a register, an offset, or none, and a displacement
abbrev pub place_at : Reading (ℕ × (Option ℕ × ℕ))
place_at bytes = pair_at number_at (pair_at optional_at number_at) bytes

-- the entry facts
abbrev pub fact_cases : List (ℕ × Reading Fact)
fact_cases =
    (1, mapped Nonnull number_at)
    ∷ (2, mapped (λ x. Inside x.0 x.1) (pair_at number_at number_at))
    ∷ (3, mapped (λ x. Aimed x.0 x.1.0 x.1.1.0 x.1.1.1) (pair_at byte_at place_at))
    ∷ (4, mapped Shut byte_at)
    ∷ []

-- an entry fact
unfoldable pub fact_at : Reading Fact
fact_at bytes = tagged fact_cases bytes

-- an operand
abbrev pub value_at : (kind : Operand) → Reading (Value kind)
value_at Register = number_at
value_at OptionalRegister = optional_at
value_at Scope = byte_at
value_at Block = number_at
value_at Function = number_at
value_at Layout = number_at
value_at TextNumber = number_at
value_at Number = number_at
value_at Integer = integer_at
value_at Truth = truth_at
value_at Character = letter_at
value_at Registers = list_at number_at

-- operands, one behind the other
abbrev pub values_at : (kinds : List Operand) → Reading (Values kinds)
values_at [] = given tt
values_at (c ∷ cs) = pair_at (value_at c) (values_at cs)

-- the instruction with this name
abbrev pub named : Option Name → Reading Instruction
named None bytes = Err BadOp
named (Some name) bytes = mapped (made name) (values_at (cases_of name)) bytes

-- an instruction: its code, and its operands
unfoldable pub instruction_at : Reading Instruction
instruction_at bytes = byte_at bytes >>= λ code. named (name_with code.0) code.1

-- a block
unfoldable pub block_at : Reading form.Block
block_at bytes = mapped (λ x. record { facts = x.0; code = x.1 }) (pair_at (list_at fact_at) (list_at instruction_at)) bytes

-- a function
unfoldable pub function_at : Reading form.Function
function_at bytes = mapped (λ x. record { result = x.0; parameters = x.1.0; kinds = x.1.1.0; scopes = x.1.1.1.0; blocks = x.1.1.1.1 })
    (pair_at result_at (pair_at number_at (pair_at (list_at kind_at) (pair_at byte_at (list_at block_at))))) bytes

-- a text
unfoldable pub text_at : Reading (List ℕ)
text_at bytes = list_at letter_at bytes

-- a layout
unfoldable pub layout_at : Reading (List Kind)
layout_at bytes = list_at cell_at bytes

-- the letters C0FI as a number
abbrev pub magic : ℕ
magic = from_le_bytes w32 (67 ∷ 48 ∷ 70 ∷ 73 ∷ [])

-- the letters C0FI
unfoldable pub magic_at : Reading ℕ
magic_at bytes = tested (λ n. n == magic) Magic number_at bytes

-- how many cells a piece has
unfoldable pub cells_at : Reading ℕ
cells_at bytes = tested is_piece BadOperand half_at bytes

-- the same behind this version: the first has pieces of 64 cells, and the second says how many; behind another no byte is read
unfoldable pub piece_at : (version : ℕ) → Reading ℕ
piece_at v bytes = if v == 1 then Ok (64, bytes) else (if v == 2 then cells_at bytes else Err Version)

-- texts, layouts and functions, where pieces have so many cells
unfoldable pub body_at : (cells : ℕ) → Reading Image
body_at n bytes = mapped (λ x. record { piece = n; head = record { texts = x.0; layouts = x.1.0 }; functions = x.1.1 })
    (pair_at (list_at text_at) (pair_at (list_at layout_at) (list_at function_at))) bytes

-- nothing stands behind the image
abbrev pub ended : Image → List ℕ → Result Image ImageFault
ended C [] = Ok C
ended C (b ∷ bytes) = Err Trailing

-- the image that these bytes are, or the first thing that is wrong with them
unfoldable pub reads : List ℕ → Result Image ImageFault
reads bytes = magic_at bytes >>= λ m. half_at m.1 >>= λ v. piece_at v.0 v.1 >>= λ n. body_at n.0 n.1 >>= λ C. ended C.0 C.1
