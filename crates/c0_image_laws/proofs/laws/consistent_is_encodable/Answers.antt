use Rattle.c0_image_laws.proofs.Functions.{image_fits}
use Rattle.c0_image_laws.proofs.laws.consistent_is_encodable.Goals as goal

pub returns : goal.returns
returns c = image_fits
