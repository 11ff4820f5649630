use Rattle.prefetch_pass.proofs.Same.{asks_the_same, stays_guarded}
use Rattle.prefetch_pass.proofs.laws.prefetched_is_guarded.Goals as goal

pub returns-clause-guarded : goal.returns-clause-guarded
returns-clause-guarded c = stays_guarded

pub returns-clause-asked : goal.returns-clause-asked
returns-clause-asked c = asks_the_same
