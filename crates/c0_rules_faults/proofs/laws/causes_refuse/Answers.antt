use Rattle.c0_rules_faults.proofs.Programs.{causes_refuse}
use Rattle.c0_rules_faults.proofs.laws.causes_refuse.Goals as goal

pub returns : goal.returns
returns c = causes_refuse
