use Rattle.c0_rules_faults.proofs.Exits.{exits_stand_in_loops}
use Rattle.c0_rules_faults.proofs.laws.exits_stand_in_loops.Goals as goal

pub returns : goal.returns
returns c = exits_stand_in_loops
