use Rattle.c0_image_laws.proofs.Encodable.{images_encodable}
use Rattle.c0_image_laws.proofs.laws.images_are_encodable.Goals as goal

pub returns : goal.returns
returns c = images_encodable
