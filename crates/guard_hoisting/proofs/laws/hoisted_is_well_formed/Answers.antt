use Rattle.guard_hoisting.proofs.Same.{stays_well_formed}
use Rattle.guard_hoisting.proofs.laws.hoisted_is_well_formed.Goals as goal

pub returns : goal.returns
returns c = stays_well_formed
