use Rattle.guard_hoisting.proofs.Hoists.{stays_scoped}
use Rattle.guard_hoisting.proofs.laws.hoisted_is_scoped.Goals as goal

pub returns : goal.returns
returns c = stays_scoped
