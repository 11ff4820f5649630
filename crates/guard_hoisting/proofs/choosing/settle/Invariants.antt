use Rattle.std.proofs.Common.{◌≡◌, map}
use Rattle.middle_form.specs.Scoped.{Code}
use Rattle.guard_hoisting.specs.Building.{AreAssigned}
use Rattle.guard_hoisting.specs.Ways.{settled}
use Rattle.guard_hoisting.proofs.choosing.settle.Given as goal

abbrev pub invariant-loop-used : goal.invariant-loop-used
invariant-loop-used l = (test body : Code) → AreAssigned l.assigned test body → l.made.items ≡ map (settled l.kinds test body) l.yielded
