use Rattle.c0_well_formed.proofs.GuardedFunctions.{lowered_guarded}
use Rattle.c0_well_formed.proofs.laws.lowered_is_guarded.Goals as goal

pub returns : goal.returns
returns c = lowered_guarded
