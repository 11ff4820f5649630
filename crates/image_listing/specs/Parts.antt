-- The texts of operands as code holds them.
use Rattle.std.specs.Prelude.{ℕ, List, [], ◌∷◌, ◌++◌, take, Option, Some, None, option_map, codes, decimal}
use Rattle.std.specs.Borrow.{Bor}
use Rattle.std.specs.Fmt.{signed_decimal}
use Rattle.std.specs.List.{flat_map}
use Rattle.instruction_table.specs.declared.parts.Argument.{Argument}
use Rattle.instruction_table.specs.declared.parts.Argument.TheVariants.{Register, NoRegister, Scope, Block, Function, Number, Integer, Truth, Character}
use Rattle.instruction_table.specs.declared.parts.Parts.{Parts}
use Rattle.instruction_table.specs.Table.{word_of}
use Rattle.image_listing.specs.Listing.{behind_comma, register_text, truth_text}

-- an operand that is no list
abbrev pub argument_text : Argument → List ℕ
argument_text (Register r) = register_text r
argument_text NoRegister = codes "-"
argument_text (Scope s) = codes "s" ++ decimal s
argument_text (Block b) = codes "b" ++ decimal b
argument_text (Function f) = codes "f" ++ decimal f
argument_text (Number n) = decimal n
argument_text (Integer z) = signed_decimal z
argument_text (Truth t) = truth_text t
argument_text (Character c) = decimal c

-- an operand behind another
abbrev pub later_argument : Argument → List ℕ
later_argument a = behind_comma (argument_text a)

-- a register behind another operand
abbrev pub later_register : ℕ → List ℕ
later_register r = behind_comma (register_text r)

-- operands that are no lists
abbrev pub arguments_text : List Argument → List ℕ
arguments_text [] = []
arguments_text (a ∷ others) = codes " " ++ (argument_text a ++ flat_map later_argument others)

-- a list of registers behind other operands, where there is one
abbrev pub registers_text : Option (List ℕ) → List ℕ
registers_text None = []
registers_text (Some rs) = flat_map later_register rs

-- an instruction by the table
abbrev pub parts_text : Parts → List ℕ
parts_text p = word_of p.name ++ (arguments_text (take p.count p.arguments) ++ registers_text (option_map (λ (b : Bor (List ℕ)). b.now) p.registers))
