use Rattle.scope_placement.proofs.Formed.{stays_well_formed}
use Rattle.scope_placement.proofs.laws.placed_is_well_formed.Goals as goal

pub returns : goal.returns
returns c = stays_well_formed
