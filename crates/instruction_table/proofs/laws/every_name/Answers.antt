use Rattle.instruction_table.proofs.Tables.{each_is_found, found_has_code, no_other_code}
use Rattle.instruction_table.proofs.laws.every_name.Goals as goal

pub returns-clause-found : goal.returns-clause-found
returns-clause-found c = each_is_found

pub returns-clause-code : goal.returns-clause-code
returns-clause-code c = found_has_code

pub returns-clause-none : goal.returns-clause-none
returns-clause-none c = no_other_code
