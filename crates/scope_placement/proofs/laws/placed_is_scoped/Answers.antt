use Rattle.scope_placement.proofs.Disciplined.{always_scoped}
use Rattle.scope_placement.proofs.laws.placed_is_scoped.Goals as goal

pub returns : goal.returns
returns c = always_scoped
