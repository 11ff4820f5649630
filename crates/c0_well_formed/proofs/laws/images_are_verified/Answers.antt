use Rattle.c0_well_formed.proofs.Images.{images_ok}
use Rattle.c0_well_formed.proofs.laws.images_are_verified.Goals as goal

pub returns : goal.returns
returns c = images_ok
