use Rattle.std.proofs.Common.{refl}
use Rattle.scope_verifier_laws.proofs.laws.worked_faults.Goals as goal

pub returns-clause-none : goal.returns-clause-none
returns-clause-none c = refl

pub returns-clause-same : goal.returns-clause-same
returns-clause-same c = refl

pub returns-clause-not_aimed : goal.returns-clause-not_aimed
returns-clause-not_aimed c = refl

pub returns-clause-not_checked : goal.returns-clause-not_checked
returns-clause-not_checked c = refl

pub returns-clause-open_scope : goal.returns-clause-open_scope
returns-clause-open_scope c = refl

pub returns-clause-scopes : goal.returns-clause-scopes
returns-clause-scopes c = refl

pub returns-clause-out_of_code : goal.returns-clause-out_of_code
returns-clause-out_of_code c = refl

pub returns-clause-operand_kind : goal.returns-clause-operand_kind
returns-clause-operand_kind c = refl

pub returns-clause-entry_facts : goal.returns-clause-entry_facts
returns-clause-entry_facts c = refl

pub returns-clause-written : goal.returns-clause-written
returns-clause-written c = refl

pub returns-clause-no_cell : goal.returns-clause-no_cell
returns-clause-no_cell c = refl

pub returns-clause-not_told : goal.returns-clause-not_told
returns-clause-not_told c = refl

pub returns-clause-still_open : goal.returns-clause-still_open
returns-clause-still_open c = refl

pub returns-clause-no_scope : goal.returns-clause-no_scope
returns-clause-no_scope c = refl

pub returns-clause-no_instruction : goal.returns-clause-no_instruction
returns-clause-no_instruction c = refl

pub returns-clause-no_block : goal.returns-clause-no_block
returns-clause-no_block c = refl

pub returns-clause-no_end : goal.returns-clause-no_end
returns-clause-no_end c = refl

pub returns-clause-goes_on : goal.returns-clause-goes_on
returns-clause-goes_on c = refl

pub returns-clause-no_function : goal.returns-clause-no_function
returns-clause-no_function c = refl

pub returns-clause-takes : goal.returns-clause-takes
returns-clause-takes c = refl

pub returns-clause-no_register : goal.returns-clause-no_register
returns-clause-no_register c = refl

pub returns-clause-no_layout : goal.returns-clause-no_layout
returns-clause-no_layout c = refl

pub returns-clause-offset : goal.returns-clause-offset
returns-clause-offset c = refl

pub returns-clause-not_kept : goal.returns-clause-not_kept
returns-clause-not_kept c = refl

pub returns-clause-numbers_first : goal.returns-clause-numbers_first
returns-clause-numbers_first c = refl

pub returns-clause-scope_first : goal.returns-clause-scope_first
returns-clause-scope_first c = refl
