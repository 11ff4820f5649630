use Rattle.prefetch_pass.proofs.Same.{stays_well_formed}
use Rattle.prefetch_pass.proofs.laws.prefetched_is_well_formed.Goals as goal

pub returns : goal.returns
returns c = stays_well_formed
