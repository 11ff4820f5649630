use Rattle.c0_rules_faults.proofs.FindPrograms.{worked}
use Rattle.c0_rules_faults.proofs.laws.worked_are_caused.Goals as goal

pub returns : goal.returns
returns c = worked
