use Rattle.scope_placement.proofs.Same.{keeps_meaning}
use Rattle.scope_placement.proofs.laws.placed_keeps_the_meaning.Goals as goal

pub returns : goal.returns
returns c = keeps_meaning
