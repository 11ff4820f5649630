use Rattle.scope_verifier_laws.proofs.Accepted.{accepted}
use Rattle.scope_verifier_laws.proofs.laws.accepted_is_verified.Goals as goal

pub returns-clause-verified : goal.returns-clause-verified
returns-clause-verified c = accepted

pub returns-clause-covered : goal.returns-clause-covered
returns-clause-covered c = λ C e. c.verified_is_covered.ensures.covered C (accepted C e)
