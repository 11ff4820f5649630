use Rattle.std.proofs.Common.{◌≡◌, ◌++◌, drop}
use Rattle.scoped_building.specs.Building.{codes}
use Rattle.scope_placement.specs.Placed.{leaves, leaves_from}
use Rattle.scope_placement.proofs.runs.leave_all.Given as goal

abbrev pub invariant-loop-scope : goal.invariant-loop-scope
invariant-loop-scope l = codes l.parts.items ++ leaves_from l.scope (drop l.scope l.registers) ≡ codes l.fn.parts.items ++ leaves l.registers
