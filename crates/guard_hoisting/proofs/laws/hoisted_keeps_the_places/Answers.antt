use Rattle.guard_hoisting.proofs.Aimed.{keeps_the_places}
use Rattle.guard_hoisting.proofs.laws.hoisted_keeps_the_places.Goals as goal

pub returns : goal.returns
returns c = keeps_the_places
