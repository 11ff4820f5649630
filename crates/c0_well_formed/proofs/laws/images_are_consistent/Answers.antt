use Rattle.c0_well_formed.proofs.Consistent.{images_consistent}
use Rattle.c0_well_formed.proofs.laws.images_are_consistent.Goals as goal

pub returns : goal.returns
returns c = images_consistent
