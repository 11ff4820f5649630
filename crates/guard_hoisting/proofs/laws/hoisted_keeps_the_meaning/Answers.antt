use Rattle.guard_hoisting.proofs.Same.{keeps_meaning}
use Rattle.guard_hoisting.proofs.laws.hoisted_keeps_the_meaning.Goals as goal

pub returns : goal.returns
returns c = keeps_meaning
