-- The bytes of an image: each number is four bytes, the lowest first, unless it is said, and each list is its count and its items.
use Rattle.std.specs.Prelude.{ℕ, Bool, true, false, List, [], ◌∷◌, ◌++◌, length, Option, Some, None}
use Rattle.std.specs.Int.{w16, w32, to_le_bytes, cast_unsigned}
use Rattle.std.specs.List.{flat_map}
use Rattle.code_form.specs.declared.form.Kind.{Kind}
use Rattle.code_form.specs.declared.form.Kind.TheVariants as k
use Rattle.code_form.specs.declared.form.Fact.{Fact}
use Rattle.code_form.specs.declared.form.Fact.TheVariants.{Nonnull, Inside, Aimed, Shut}
use Rattle.code_form.specs.Form as form
use Rattle.code_form.specs.Form.{Instruction, Image}
use Rattle.instruction_table.specs.declared.operand.Operand.{Operand}
use Rattle.instruction_table.specs.declared.operand.Operand.TheVariants.{Register, OptionalRegister, Scope, Block, Function, Layout, TextNumber, Number, Integer, Truth, Character, Registers}
use Rattle.instruction_table.specs.Table.{Value, Values, cases_of, code_of, coded}

-- a number modulo 2^32
abbrev pub word : ℕ → List ℕ
word n = to_le_bytes w32 n

-- ... modulo 2^16, in two bytes
abbrev pub half : ℕ → List ℕ
half n = to_le_bytes w16 n

-- a list: its count, then its items
abbrev pub list_bytes : {A : Type 0} → (A → List ℕ) → List A → List ℕ
list_bytes item xs = word (length xs) ++ flat_map item xs

-- a register, or none
abbrev pub optional_bytes : Option ℕ → List ℕ
optional_bytes None = word 4294967295
optional_bytes (Some r) = word r

-- a truth value
abbrev pub truth_byte : Bool → ℕ
truth_byte false = 0
truth_byte true = 1

-- a kind: its tag, and a layout where it has one
abbrev pub kind_bytes : Kind → List ℕ
kind_bytes k.Int = 1 ∷ []
kind_bytes k.Bool = 2 ∷ []
kind_bytes k.Char = 3 ∷ []
kind_bytes k.Text = 4 ∷ []
kind_bytes (k.Ptr l) = 5 ∷ word l
kind_bytes (k.Arr l) = 6 ∷ word l
kind_bytes (k.Off l) = 7 ∷ word l

-- the kind of a result, or that there is none
abbrev pub result_bytes : Option Kind → List ℕ
result_bytes None = 0 ∷ []
result_bytes (Some k) = kind_bytes k

-- an entry fact: its tag, and what it speaks of
abbrev pub fact_bytes : Fact → List ℕ
fact_bytes (Nonnull r) = 1 ∷ word r
fact_bytes (Inside d r) = 2 ∷ (word d ++ word r)
fact_bytes (Aimed s r off disp) = 3 ∷ s ∷ (word r ++ (optional_bytes off ++ word disp))
fact_bytes (Shut s) = 4 ∷ s ∷ []

-- an operand of an instruction
abbrev pub value_bytes : (kind : Operand) → Value kind → List ℕ
value_bytes Register r = word r
value_bytes OptionalRegister r = optional_bytes r
value_bytes Scope s = s ∷ []
value_bytes Block b = word b
value_bytes Function f = word f
value_bytes Layout l = word l
value_bytes TextNumber k = word k
value_bytes Number n = word n
value_bytes Integer z = word (cast_unsigned w32 z)
value_bytes Truth t = truth_byte t ∷ []
value_bytes Character c = c ∷ []
value_bytes Registers rs = list_bytes word rs

-- operands, one after the other
abbrev pub values_bytes : (kinds : List Operand) → Values kinds → List ℕ
values_bytes [] v = []
values_bytes (c ∷ cs) v = value_bytes c v.0 ++ values_bytes cs v.1

-- an instruction: its code and its operands
abbrev pub instruction_bytes : Instruction → List ℕ
instruction_bytes i = code_of (coded i).0 ∷ values_bytes (cases_of (coded i).0) (coded i).1

-- a block: its entry facts and its instructions
abbrev pub block_bytes : form.Block → List ℕ
block_bytes b = list_bytes fact_bytes b.facts ++ list_bytes instruction_bytes b.code

-- a function
abbrev pub function_bytes : form.Function → List ℕ
function_bytes g = result_bytes g.result ++ (word g.parameters ++ (list_bytes kind_bytes g.kinds ++ (g.scopes ∷ list_bytes block_bytes g.blocks)))

-- a text: its count and its bytes
abbrev pub text_bytes : List ℕ → List ℕ
text_bytes t = word (length t) ++ t

-- a layout: the kinds of its cells
abbrev pub layout_bytes : List Kind → List ℕ
layout_bytes l = list_bytes kind_bytes l

-- the letters C0FI
abbrev pub magic_bytes : List ℕ
magic_bytes = 67 ∷ 48 ∷ 70 ∷ 73 ∷ []

-- texts, layouts and functions
abbrev pub body_bytes : Image → List ℕ
body_bytes C = list_bytes text_bytes C.head.texts ++ (list_bytes layout_bytes C.head.layouts ++ list_bytes function_bytes C.functions)

-- an image, as it is written: the version, which is 2, and behind it how many cells a piece has
abbrev pub image_bytes : Image → List ℕ
image_bytes C = magic_bytes ++ (2 ∷ 0 ∷ (half C.piece ++ body_bytes C))

-- an image in version 1, which has no room for the size of pieces
abbrev pub first_bytes : Image → List ℕ
first_bytes C = magic_bytes ++ (1 ∷ 0 ∷ body_bytes C)
