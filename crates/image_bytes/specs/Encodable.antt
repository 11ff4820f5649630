-- Which images have bytes of their own: those whose numbers are in range, and whose pieces have one of five sizes.
use Rattle.std.specs.Prelude.{◌≡◌, ◌⊎◌, ℕ, ◌<◌, true, List, [], ◌∷◌, length, Option, Some, None}
use Rattle.std.specs.Int.{w32}
use Rattle.std.specs.Int.RustNames.{FitsSigned}
use Rattle.std.specs.List.{AllByRecursion}
use Rattle.cells.specs.Pieces.{is_piece}
use Rattle.code_form.specs.declared.form.Kind.{Kind}
use Rattle.code_form.specs.declared.form.Kind.TheVariants as k
use Rattle.code_form.specs.declared.form.Fact.{Fact}
use Rattle.code_form.specs.declared.form.Fact.TheVariants.{Nonnull, Inside, Aimed, Shut}
use Rattle.code_form.specs.Form as form
use Rattle.code_form.specs.Form.{Instruction, Image}
use Rattle.instruction_table.specs.declared.operand.Operand.{Operand}
use Rattle.instruction_table.specs.declared.operand.Operand.TheVariants.{Register, OptionalRegister, Scope, Block, Function, Layout, TextNumber, Number, Integer, Truth, Character, Registers}
use Rattle.instruction_table.specs.Table.{Value, Values, cases_of, coded}
use Rattle.image_bytes.specs.Bytes.{first_bytes, image_bytes}

-- a number that four bytes hold
abbrev pub IsWord : ℕ → Type 0
IsWord n = n < 4294967296

-- a number that one byte holds
abbrev pub IsByte : ℕ → Type 0
IsByte n = n < 256

-- a character of ASCII
abbrev pub IsLetter : ℕ → Type 0
IsLetter c = c < 128

-- a list with a count in range, and items that are
abbrev pub AreFew : {A : Type 0} → (A → Type 0) → List A → Type 0
AreFew Fits xs = IsWord (length xs) × AllByRecursion Fits xs

-- a register, or none, which 2^32 - 1 stands for
abbrev pub OptionalFits : Option ℕ → Type 0
OptionalFits None = Unit {0}
OptionalFits (Some r) = r < 4294967295

-- the kind of a register
abbrev pub KindFits : Kind → Type 0
KindFits (k.Ptr l) = IsWord l
KindFits (k.Arr l) = IsWord l
KindFits (k.Off l) = IsWord l
KindFits _ = Unit {0}

-- the kind of a cell, which is no offset
abbrev pub CellFits : Kind → Type 0
CellFits (k.Off l) = ⊥
CellFits k = KindFits k

-- the kind of a result, where there is one
abbrev pub ResultFits : Option Kind → Type 0
ResultFits None = Unit {0}
ResultFits (Some k) = KindFits k

-- an entry fact
abbrev pub FactFits : Fact → Type 0
FactFits (Nonnull r) = IsWord r
FactFits (Inside d r) = IsWord d × IsWord r
FactFits (Aimed s r off disp) = IsByte s × (IsWord r × (OptionalFits off × IsWord disp))
FactFits (Shut s) = IsByte s

-- an operand
abbrev pub ValueFits : (kind : Operand) → Value kind → Type 0
ValueFits Register r = IsWord r
ValueFits OptionalRegister r = OptionalFits r
ValueFits Scope s = IsByte s
ValueFits Block b = IsWord b
ValueFits Function f = IsWord f
ValueFits Layout l = IsWord l
ValueFits TextNumber k = IsWord k
ValueFits Number n = IsWord n
ValueFits Integer z = FitsSigned w32 z
ValueFits Truth t = Unit {0}
ValueFits Character c = IsLetter c
ValueFits Registers rs = AreFew IsWord rs

-- operands
abbrev pub ValuesFit : (kinds : List Operand) → Values kinds → Type 0
ValuesFit [] v = Unit {0}
ValuesFit (c ∷ cs) v = ValueFits c v.0 × ValuesFit cs v.1

-- an instruction
abbrev pub InstructionFits : Instruction → Type 0
InstructionFits i = ValuesFit (cases_of (coded i).0) (coded i).1

-- a block
abbrev pub BlockFits : form.Block → Type 0
BlockFits b = AreFew FactFits b.facts × AreFew InstructionFits b.code

-- a function
abbrev pub FunctionFits : form.Function → Type 0
FunctionFits g = ResultFits g.result × (IsWord g.parameters × (AreFew KindFits g.kinds × (IsByte g.scopes × AreFew BlockFits g.blocks)))

-- a text
abbrev pub TextFits : List ℕ → Type 0
TextFits t = AreFew IsLetter t

-- a layout
abbrev pub LayoutFits : List Kind → Type 0
LayoutFits l = AreFew CellFits l

-- texts, layouts and functions
abbrev pub BodyFits : Image → Type 0
BodyFits C = AreFew TextFits C.head.texts × (AreFew LayoutFits C.head.layouts × AreFew FunctionFits C.functions)

-- an image
abbrev pub IsEncodable : Image → Type 0
IsEncodable C = (is_piece C.piece ≡ true) × BodyFits C

-- these bytes are those of the image: as it is written, or, where its pieces have 64 cells, in version 1
abbrev pub IsImage : List ℕ → Image → Type 0
IsImage bytes C = IsEncodable C × ((bytes ≡ image_bytes C) ⊎ ((C.piece ≡ 64) × (bytes ≡ first_bytes C)))
