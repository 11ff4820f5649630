use Rattle.codegen.proofs.WellFormed.{verified}
use Rattle.codegen.proofs.laws.generated_is_covered.Goals as goal

pub returns : goal.returns
returns c = λ cells P formed guarded scoped. c.verified_is_covered.ensures.covered _ (verified cells P formed guarded scoped)
