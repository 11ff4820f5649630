use Rattle.std.proofs.Common.{refl}
use Rattle.std.specs.Fmt.{digits}
use Rattle.image_listing.proofs.laws.worked.Goals as goal

pub returns : goal.returns
unfolding digits
returns c = refl
