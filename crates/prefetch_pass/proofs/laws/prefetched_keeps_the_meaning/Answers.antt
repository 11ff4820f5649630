use Rattle.prefetch_pass.proofs.Same.{keeps_meaning}
use Rattle.prefetch_pass.proofs.laws.prefetched_keeps_the_meaning.Goals as goal

pub returns : goal.returns
returns c = keeps_meaning
