use Rattle.std.proofs.Common.{◌≡◌, ◌++◌, drop}
use Rattle.scoped_building.specs.Building.{codes}
use Rattle.guard_hoisting.specs.Hoisted.{openings}
use Rattle.guard_hoisting.proofs.moving.open_all.Given as goal

abbrev pub invariant-loop-scope : goal.invariant-loop-scope
invariant-loop-scope l = codes l.parts.items ++ openings l.scope (drop l.scope l.ways) ≡ codes l.fn.parts.items ++ openings 0 l.ways
