-- The numbers of an image in reading order, and which of them is the first that is out of range: of one instruction or entry fact those of blocks and
-- scopes come first.
use Rattle.std.specs.Prelude.{ℕ, suc, Bool, true, false, not, ◌&&◌, nat_le, nat_lt, List, [], ◌∷◌, Option, Some, None, length}
use Rattle.code_form.specs.declared.form.Kind.{Kind}
use Rattle.code_form.specs.declared.form.Kind.TheVariants as kind
use Rattle.code_form.specs.declared.form.Fact.{Fact}
use Rattle.code_form.specs.declared.form.Fact.TheVariants as fact
use Rattle.code_form.specs.declared.form.Operation.TheVariants.{TextOf, Alloc, AllocArray}
use Rattle.code_form.specs.Form.{Instruction, Simple, Block, Function, Head, Image}
use Rattle.code_form.specs.Asked.{leads_out}
use Rattle.instruction_table.specs.declared.parts.Argument.{Argument}
use Rattle.instruction_table.specs.declared.parts.Argument.TheVariants as argument
use Rattle.instruction_table.specs.Arguments.{arguments_of, registers_of}
use Rattle.scope_verifier_laws.specs.declared.fault.VerifyFault.{VerifyFault}
use Rattle.scope_verifier_laws.specs.declared.fault.VerifyFault.TheVariants.{TooManyScopes, OutOfCode, OperandKind}
use Rattle.scope_verifier_laws.specs.First.{first_in, first_of, unless}

-- ---- kinds

-- the layout that a kind names is one of so many
abbrev pub names_layout : ℕ → Kind → Bool
names_layout count (kind.Ptr l) = nat_lt l count
names_layout count (kind.Arr l) = nat_lt l count
names_layout count (kind.Off l) = nat_lt l count
names_layout count _ = true

-- a kind of cells and of results: no offset
abbrev pub is_value : Kind → Bool
is_value (kind.Off l) = false
is_value _ = true

-- a kind of values that names one of so many layouts
abbrev pub is_cell_kind : ℕ → Kind → Bool
is_cell_kind count k = names_layout count k && is_value k

-- the kind of a result, where there is one
abbrev pub is_result_kind : ℕ → Option Kind → Bool
is_result_kind count None = true
is_result_kind count (Some k) = is_cell_kind count k

-- ---- numbers of one function

module _ (f : Function) where
  -- a register's number
  abbrev pub register_fault : ℕ → Option VerifyFault
  register_fault r = unless (nat_lt r (length f.kinds)) OperandKind

  -- a scope's number
  abbrev pub scope_fault : ℕ → Option VerifyFault
  scope_fault s = unless (nat_lt s f.scopes) TooManyScopes

  -- the number of a block or a scope
  abbrev pub leading_fault : Argument → Option VerifyFault
  leading_fault (argument.Block b) = unless (nat_lt b (length f.blocks)) OutOfCode
  leading_fault (argument.Scope s) = scope_fault s
  leading_fault _ = None

  -- the numbers of a list of registers, where there is one
  abbrev pub registers_fault : Option (List ℕ) → Option VerifyFault
  registers_fault None = None
  registers_fault (Some rs) = first_in register_fault rs

  -- the numbers of an entry fact
  abbrev pub fact_numbers : Fact → Option VerifyFault
  fact_numbers (fact.Nonnull r) = register_fault r
  fact_numbers (fact.Inside d r) = first_of (register_fault d) (register_fault r)
  fact_numbers (fact.Aimed s r None disp) = first_of (scope_fault s) (register_fault r)
  fact_numbers (fact.Aimed s r (Some d) disp) = first_of (scope_fault s) (first_of (register_fault r) (register_fault d))
  fact_numbers (fact.Shut s) = scope_fault s

-- the number of a text, of which 0 is the empty one, or of a layout
abbrev pub head_fault : Head → Instruction → Option VerifyFault
head_fault H (Simple (TextOf d n)) = unless (nat_lt n (suc (length H.texts))) OperandKind
head_fault H (Simple (Alloc d l)) = unless (nat_lt l (length H.layouts)) OperandKind
head_fault H (Simple (AllocArray d l n)) = unless (nat_lt l (length H.layouts)) OperandKind
head_fault H _ = None

-- an instruction with these behind it stands where it belongs: last in its block exactly where it leads out of it
abbrev pub is_placed : Instruction → List Instruction → Bool
is_placed i [] = leads_out i
is_placed i (j ∷ rest) = not (leads_out i)

-- the kind of a register, where there are so many layouts
abbrev pub kind_fault : ℕ → Kind → Option VerifyFault
kind_fault count k = unless (names_layout count k) OperandKind

module _ (C : Image) (f : Function) where
  -- the number of a register or a function
  abbrev pub other_fault : Argument → Option VerifyFault
  other_fault (argument.Register r) = register_fault f r
  other_fault (argument.Function g) = unless (nat_lt g (length C.functions)) OperandKind
  other_fault _ = None

  -- the numbers of an instruction
  abbrev pub instruction_numbers : Instruction → Option VerifyFault
  instruction_numbers i =
      first_of (first_in (leading_fault f) (arguments_of i)) (first_of (first_in other_fault (arguments_of i)) (first_of (registers_fault f (registers_of i)) (head_fault C.head i)))

  -- the numbers of instructions
  abbrev pub code_numbers : List Instruction → Option VerifyFault
  code_numbers [] = None
  code_numbers (i ∷ rest) = first_of (unless (is_placed i rest) OutOfCode) (first_of (instruction_numbers i) (code_numbers rest))

  -- the numbers of a block, which has an instruction
  abbrev pub block_numbers : Block → Option VerifyFault
  block_numbers b = first_of (first_in (fact_numbers f) b.facts) (first_of (unless (nat_lt 0 (length b.code)) OutOfCode) (code_numbers b.code))

  -- the numbers before the blocks: the kinds of the result and of the registers, of which the first are the parameters, and the number of scopes
  abbrev pub outer_numbers : Option VerifyFault
  outer_numbers =
      first_of (unless (is_result_kind (length C.head.layouts) f.result) OperandKind)
      (first_of (unless (nat_le f.parameters (length f.kinds)) OperandKind) (first_of (first_in (kind_fault (length C.head.layouts)) f.kinds) (unless (nat_le f.scopes 4) TooManyScopes)))

  -- the numbers of a function, which has a block
  abbrev pub function_numbers : Option VerifyFault
  function_numbers = first_of outer_numbers (first_of (unless (nat_lt 0 (length f.blocks)) OutOfCode) (first_in block_numbers f.blocks))

-- ---- all numbers

-- the kind of a cell, where there are so many layouts
abbrev pub cell_fault : ℕ → Kind → Option VerifyFault
cell_fault count k = unless (is_cell_kind count k) OperandKind

-- the kinds of a layout
abbrev pub layout_fault : ℕ → List Kind → Option VerifyFault
layout_fault count cells = first_in (cell_fault count) cells

-- the numbers of an image
abbrev pub numbers : Image → Option VerifyFault
numbers C = first_of (first_in (layout_fault (length C.head.layouts)) C.head.layouts) (first_in (function_numbers C) C.functions)
