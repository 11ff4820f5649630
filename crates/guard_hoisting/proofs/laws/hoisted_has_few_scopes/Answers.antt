use Rattle.guard_hoisting.proofs.Hoists.{has_few_scopes}
use Rattle.guard_hoisting.proofs.laws.hoisted_has_few_scopes.Goals as goal

pub returns : goal.returns
returns c = has_few_scopes
