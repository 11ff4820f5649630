-- The bytes of operands as code holds them.
use Rattle.std.specs.Prelude.{ℕ, List, [], ◌∷◌, ◌++◌, take, Option, Some, None, option_map}
use Rattle.std.specs.Borrow.{Bor}
use Rattle.std.specs.Int.{w32, cast_unsigned}
use Rattle.std.specs.Int.RustNames.{FitsSigned}
use Rattle.std.specs.List.{flat_map}
use Rattle.code_form.specs.declared.form.Operation.TheVariants as op
use Rattle.code_form.specs.Form as form
use Rattle.code_form.specs.Form.{Instruction}
use Rattle.instruction_table.specs.declared.parts.Argument.{Argument}
use Rattle.instruction_table.specs.declared.parts.Argument.TheVariants.{Register, NoRegister, Scope, Block, Function, Number, Integer, Truth, Character}
use Rattle.instruction_table.specs.declared.parts.Parts.{Parts}
use Rattle.instruction_table.specs.Table.{code_of}
use Rattle.image_bytes.specs.Bytes.{list_bytes, truth_byte, word}
use Rattle.image_bytes.specs.Encodable.{AreFew, IsByte, IsLetter, IsWord, OptionalFits}

-- an operand that is no list
abbrev pub argument_bytes : Argument → List ℕ
argument_bytes (Register r) = word r
argument_bytes NoRegister = word 4294967295
argument_bytes (Scope s) = s ∷ []
argument_bytes (Block b) = word b
argument_bytes (Function f) = word f
argument_bytes (Number n) = word n
argument_bytes (Integer z) = word (cast_unsigned w32 z)
argument_bytes (Truth t) = truth_byte t ∷ []
argument_bytes (Character c) = c ∷ []

-- a list of registers, where there is one
abbrev pub registers_bytes : Option (List ℕ) → List ℕ
registers_bytes None = []
registers_bytes (Some rs) = list_bytes word rs

-- an instruction by the table
abbrev pub parts_bytes : Parts → List ℕ
parts_bytes p = code_of p.name ∷ (flat_map argument_bytes (take p.count p.arguments) ++ registers_bytes (option_map (λ (b : Bor (List ℕ)). b.now) p.registers))

-- an operand that is no list has bytes of its own; whether a register may be missing, it does not tell
abbrev pub ArgumentFits : Argument → Type 0
ArgumentFits (Register r) = IsWord r
ArgumentFits NoRegister = Unit {0}
ArgumentFits (Scope s) = IsByte s
ArgumentFits (Block b) = IsWord b
ArgumentFits (Function f) = IsWord f
ArgumentFits (Number n) = IsWord n
ArgumentFits (Integer z) = FitsSigned w32 z
ArgumentFits (Truth t) = Unit {0}
ArgumentFits (Character c) = IsLetter c

-- a list of registers, where there is one
abbrev pub RegistersFit : Option (List ℕ) → Type 0
RegistersFit None = Unit {0}
RegistersFit (Some rs) = AreFew IsWord rs

-- a register that may be missing has another number than stands for none
abbrev pub OptionalsFit : Instruction → Type 0
OptionalsFit (form.Simple (op.Prefetch r off disp)) = OptionalFits off
OptionalsFit (form.Aim s r off disp) = OptionalFits off
OptionalsFit (form.Call to f rs) = OptionalFits to
OptionalsFit _ = Unit {0}
