use Rattle.std.proofs.Common.{◌∙◌, sym}
use Rattle.guard_hoisting.specs.Hoisted.{hoisted_program}
use Rattle.guard_hoisting.proofs.Hoists.{stays_scoped}
use Rattle.guard_hoisting.proofs.Same.{keeps_meaning}
use Rattle.guard_hoisting.proofs.laws.hoisted_means_the_same.Goals as goal

pub returns : goal.returns
returns c = λ P p n. c.scoped_means_the_same.ensures (hoisted_program P) (stays_scoped P p) n ∙ (keeps_meaning P n ∙ sym (c.scoped_means_the_same.ensures P p n))
