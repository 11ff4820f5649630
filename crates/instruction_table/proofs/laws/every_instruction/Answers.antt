use Rattle.instruction_table.proofs.Tables.{each_is_made, made_of_these}
use Rattle.instruction_table.proofs.laws.every_instruction.Goals as goal

pub returns-clause-made : goal.returns-clause-made
returns-clause-made c = each_is_made

pub returns-clause-coded : goal.returns-clause-coded
returns-clause-coded c = made_of_these
