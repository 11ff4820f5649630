use Rattle.c0_well_formed.proofs.Functions.{lowered_ok}
use Rattle.c0_well_formed.proofs.laws.lowered_is_well_formed.Goals as goal

pub returns : goal.returns
returns c = lowered_ok
