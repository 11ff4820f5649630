use Rattle.std.proofs.Common.{◌≡◌, ◌+◌, ◌-◌, drop}
use Rattle.scope_placement.specs.Placed.{scope_among, scope_for}
use Rattle.scope_placement.proofs.runs.scope_for.Given as goal

abbrev pub invariant-loop-scope : goal.invariant-loop-scope
invariant-loop-scope l = scope_for l.register l.registers ≡ l.scope + scope_among (3 - l.scope) l.register (drop l.scope l.registers)
