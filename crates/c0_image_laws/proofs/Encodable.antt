-- The image of every accepted text can be written.
use Rattle.c0_image_laws.specs.Laws.{ImagesAreEncodable}
use Rattle.c0_image_laws.proofs.Functions.{image_fits}

pub images_encodable : ImagesAreEncodable
images_encodable loops text checks cells C compiled = image_fits C compiled.verified compiled.consistent
