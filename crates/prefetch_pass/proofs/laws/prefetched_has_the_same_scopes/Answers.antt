use Rattle.prefetch_pass.proofs.Scopes.{has_the_same_scopes}
use Rattle.prefetch_pass.proofs.laws.prefetched_has_the_same_scopes.Goals as goal

pub returns : goal.returns
returns c = has_the_same_scopes
