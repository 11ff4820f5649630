-- The listing of an image: a line for each instruction.
use Rattle.std.specs.Prelude.{ℕ, suc, Bool, true, false, List, [], ◌∷◌, ◌++◌, map, Option, Some, None, codes, decimal}
use Rattle.std.specs.Fmt.{signed_decimal}
use Rattle.std.specs.List.{flat_map}
use Rattle.code_form.specs.Form as form
use Rattle.code_form.specs.Form.{Instruction, Image}
use Rattle.instruction_table.specs.declared.operand.Operand.{Operand}
use Rattle.instruction_table.specs.declared.operand.Operand.TheVariants.{Register, OptionalRegister, Scope, Block, Function, Layout, TextNumber, Number, Integer, Truth, Character, Registers}
use Rattle.instruction_table.specs.Table.{Value, Values, cases_of, coded, word_of}

-- a register: `r` and its number
abbrev pub register_text : ℕ → List ℕ
register_text r = codes "r" ++ decimal r

-- a register, or `-` for none
abbrev pub optional_text : Option ℕ → List ℕ
optional_text None = codes "-"
optional_text (Some r) = register_text r

-- a truth value as a number
abbrev pub truth_text : Bool → List ℕ
truth_text false = decimal 0
truth_text true = decimal 1

-- an operand: one text, or one for each register of a list
abbrev pub value_texts : (kind : Operand) → Value kind → List (List ℕ)
value_texts Register r = register_text r ∷ []
value_texts OptionalRegister r = optional_text r ∷ []
value_texts Scope s = (codes "s" ++ decimal s) ∷ []
value_texts Block b = (codes "b" ++ decimal b) ∷ []
value_texts Function f = (codes "f" ++ decimal f) ∷ []
value_texts Layout l = decimal l ∷ []
value_texts TextNumber k = decimal k ∷ []
value_texts Number n = decimal n ∷ []
value_texts Integer z = signed_decimal z ∷ []
value_texts Truth t = truth_text t ∷ []
value_texts Character c = decimal c ∷ []
value_texts Registers rs = map register_text rs

-- operands
abbrev pub values_texts : (kinds : List Operand) → Values kinds → List (List ℕ)
values_texts [] v = []
values_texts (c ∷ cs) v = value_texts c v.0 ++ values_texts cs v.1

-- a text with a comma and a blank before it
abbrev pub behind_comma : List ℕ → List ℕ
behind_comma text = codes ", " ++ text

-- texts behind a blank, with a comma and a blank between two of them
abbrev pub separated : List (List ℕ) → List ℕ
separated [] = []
separated (text ∷ texts) = codes " " ++ (text ++ flat_map behind_comma texts)

-- an instruction: its word and its operands
abbrev pub instruction_text : Instruction → List ℕ
instruction_text i = word_of (coded i).0 ++ separated (values_texts (cases_of (coded i).0) (coded i).1)

-- the line of instruction k in block b of function f
abbrev pub line : ℕ → ℕ → ℕ → Instruction → List ℕ
line f b k i = codes "f" ++ (decimal f ++ (codes " b" ++ (decimal b ++ (codes " " ++ (decimal k ++ (codes ": " ++ (instruction_text i ++ codes "\n")))))))

-- the lines of a block's instructions, from number k on
abbrev pub code_lines : ℕ → ℕ → ℕ → List Instruction → List ℕ
code_lines f b k [] = []
code_lines f b k (i ∷ is) = line f b k i ++ code_lines f b (suc k) is

-- the lines of a function's blocks, from number b on
abbrev pub block_lines : ℕ → ℕ → List form.Block → List ℕ
block_lines f b [] = []
block_lines f b (block ∷ blocks) = code_lines f b 0 block.code ++ block_lines f (suc b) blocks

-- the lines of an image's functions, from number f on
abbrev pub function_lines : ℕ → List form.Function → List ℕ
function_lines f [] = []
function_lines f (g ∷ gs) = block_lines f 0 g.blocks ++ function_lines (suc f) gs

-- an image
abbrev pub listing : Image → List ℕ
listing C = function_lines 0 C.functions
