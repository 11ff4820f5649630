use Rattle.code_verification.proofs.Covers.{covered}
use Rattle.code_verification.proofs.Entering.{entered_so}
use Rattle.code_verification.proofs.laws.verified_is_covered.Goals as goal

pub returns-clause-covered : goal.returns-clause-covered
returns-clause-covered c = covered

pub returns-clause-facts : goal.returns-clause-facts
returns-clause-facts c = entered_so
