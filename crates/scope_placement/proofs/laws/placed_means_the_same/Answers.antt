use Rattle.std.proofs.Common.{◌∙◌}
use Rattle.scope_placement.specs.Placed.{placed_program}
use Rattle.scope_placement.proofs.Disciplined.{always_scoped}
use Rattle.scope_placement.proofs.Same.{keeps_meaning}
use Rattle.scope_placement.proofs.laws.placed_means_the_same.Goals as goal

pub returns : goal.returns
returns c = λ P n. c.scoped_means_the_same.ensures (placed_program P) (always_scoped P) n ∙ keeps_meaning P n
