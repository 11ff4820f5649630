use Rattle.c0_rules_faults.proofs.Turns.{third_part_sees}
use Rattle.c0_rules_faults.proofs.laws.third_part_sees.Goals as goal

pub returns : goal.returns
returns c = third_part_sees
