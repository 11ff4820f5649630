-- An instruction's operands as code holds them: those that are no list one after the other, and the list apart.
use Rattle.std.specs.Prelude.{ℕ, Bool, true, false, List, [], ◌∷◌, Option, Some, None}
use Rattle.code_form.specs.declared.form.Operation.{Operation}
use Rattle.code_form.specs.declared.form.Operation.TheVariants.{CheckNull, CheckIndex, Len, Prefetch, Alloc, AllocArray, Print, Println, Printint, Printbool, Printchar, Flush, Assert}
use Rattle.code_form.specs.Form.{Instruction}
use Rattle.instruction_table.specs.declared.name.Name.{Name}
use Rattle.instruction_table.specs.declared.operand.Operand.{Operand}
use Rattle.instruction_table.specs.declared.operand.Operand.TheVariants as o
use Rattle.instruction_table.specs.declared.parts.Argument.{Argument}
use Rattle.instruction_table.specs.declared.parts.Argument.TheVariants.{Register, NoRegister, Scope, Block, Function, Number, Integer, Truth, Character}
use Rattle.instruction_table.specs.Table.{Value, Values, cases_of, coded}

-- a register, or none
abbrev pub register_or_none : Option ℕ → Argument
register_or_none None = NoRegister
register_or_none (Some r) = Register r

-- an operand, where it is no list, and others behind it
abbrev pub with_argument : (kind : Operand) → Value kind → List Argument → List Argument
with_argument o.Register r others = Register r ∷ others
with_argument o.OptionalRegister r others = register_or_none r ∷ others
with_argument o.Scope s others = Scope s ∷ others
with_argument o.Block k others = Block k ∷ others
with_argument o.Function f others = Function f ∷ others
with_argument o.Layout l others = Number l ∷ others
with_argument o.TextNumber k others = Number k ∷ others
with_argument o.Number k others = Number k ∷ others
with_argument o.Integer z others = Integer z ∷ others
with_argument o.Truth t others = Truth t ∷ others
with_argument o.Character c others = Character c ∷ others
with_argument o.Registers rs others = others

-- the operands that are no list
abbrev pub arguments : (kinds : List Operand) → Values kinds → List Argument
arguments [] v = []
arguments (c ∷ cs) v = with_argument c v.0 (arguments cs v.1)

-- the list, or else what stands behind
abbrev pub list_or : (kind : Operand) → Value kind → Option (List ℕ) → Option (List ℕ)
list_or o.Registers rs other = Some rs
list_or _ v other = other

-- the list among the operands, where there is one
abbrev pub registers : (kinds : List Operand) → Values kinds → Option (List ℕ)
registers [] v = None
registers (c ∷ cs) v = list_or c v.0 (registers cs v.1)

-- the name of an instruction
abbrev pub name_of : Instruction → Name
name_of i = (coded i).0

-- its operands that are no list
abbrev pub arguments_of : Instruction → List Argument
arguments_of i = arguments (cases_of (coded i).0) (coded i).1

-- ... and the list, where it has one
abbrev pub registers_of : Instruction → Option (List ℕ)
registers_of i = registers (cases_of (coded i).0) (coded i).1

-- an instruction that prints, flushes or asserts
abbrev pub has_output : Operation → Bool
has_output (Print a) = true
has_output (Println a) = true
has_output (Printint a) = true
has_output (Printbool a) = true
has_output (Printchar a) = true
has_output Flush = true
has_output (Assert a) = true
has_output _ = false

-- an instruction that checks a reference, hints at a cell, or allocates
abbrev pub is_of_heap : Operation → Bool
is_of_heap (CheckNull a) = true
is_of_heap (CheckIndex d a i size) = true
is_of_heap (Len d a) = true
is_of_heap (Prefetch a off disp) = true
is_of_heap (Alloc d l) = true
is_of_heap (AllocArray d l a) = true
is_of_heap _ = false
