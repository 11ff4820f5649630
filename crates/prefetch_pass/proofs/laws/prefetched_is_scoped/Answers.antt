use Rattle.prefetch_pass.proofs.Scopes.{stays_scoped}
use Rattle.prefetch_pass.proofs.laws.prefetched_is_scoped.Goals as goal

pub returns : goal.returns
returns c = stays_scoped
