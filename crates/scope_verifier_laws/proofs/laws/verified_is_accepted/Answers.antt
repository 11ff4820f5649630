use Rattle.scope_verifier_laws.proofs.Unfaulted.{unfaulted_image}
use Rattle.scope_verifier_laws.proofs.laws.verified_is_accepted.Goals as goal

pub returns : goal.returns
returns c = unfaulted_image
