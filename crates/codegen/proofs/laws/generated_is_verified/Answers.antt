use Rattle.codegen.proofs.WellFormed.{verified}
use Rattle.codegen.proofs.laws.generated_is_verified.Goals as goal

pub returns : goal.returns
returns c = verified
