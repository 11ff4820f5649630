-- Laws of the table.
use Rattle.std.specs.Prelude.{◌≡◌, ℕ, Some, None}
use Rattle.code_form.specs.Form.{Instruction}
use Rattle.instruction_table.specs.declared.name.Name.{Name}
use Rattle.instruction_table.specs.Table.{Values, cases_of, code_of, coded, made, name_with}

-- each instruction is made of its name and its operands
abbrev pub EachIsMade : Type 0
EachIsMade = (i : Instruction) → made (coded i).0 (coded i).1 ≡ i

-- ... and of no others
abbrev pub MadeOfThese : Type 0
MadeOfThese = (name : Name) (v : Values (cases_of name)) → coded (made name v) ≡ (name, v)

-- each name is found by its code, so that no two have the same
abbrev pub EachIsFound : Type 0
EachIsFound = (name : Name) → name_with (code_of name) ≡ Some name

-- a name that is found by a code has that code
abbrev pub FoundHasCode : Type 0
FoundHasCode = (code : ℕ) (name : Name) → name_with code ≡ Some name → code_of name ≡ code

-- no name has a code by which none is found
abbrev pub NoOtherCode : Type 0
NoOtherCode = (code : ℕ) → name_with code ≡ None → (name : Name) → code_of name ≡ code → ⊥
