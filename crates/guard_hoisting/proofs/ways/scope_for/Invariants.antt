use Rattle.std.proofs.Common.{◌≡◌, ◌+◌, drop}
use Rattle.guard_hoisting.specs.Ways.{scope_in}
use Rattle.guard_hoisting.proofs.ways.scope_for.Given as goal

abbrev pub invariant-loop-scope : goal.invariant-loop-scope
invariant-loop-scope l = scope_in l.ways l.register l.offset l.displacement ≡ l.scope + scope_in (drop l.scope l.ways) l.register l.offset l.displacement
