use Rattle.c0_rules_faults.proofs.ProgramCauses.{refusals_are_caused}
use Rattle.c0_rules_faults.proofs.laws.refusals_are_caused.Goals as goal

pub returns : goal.returns
returns c = refusals_are_caused
