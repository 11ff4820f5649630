use Rattle.std.proofs.Common.{◌+◌, ◌++◌, ◌∙◌, ap, drop}
use Rattle.scoped_building.specs.Building.{codes}
use Rattle.scope_placement.specs.Placed.{leaves_from}
use Rattle.scope_placement.proofs.Opening.{leave_next}
use Rattle.scope_placement.proofs.runs.leave_all.Goals as goal

pub loop-scope-preserved : goal.loop-scope-preserved
loop-scope-preserved c =
    let rs = c.args.registers.now in
    let i = c.loop-scope.scope in
    ap (λ xs. codes xs ++ leaves_from (i + 1) (drop (i + 1) rs)) c.in_ok-push.ensures.items ∙ leave_next rs i c.loop-scope.parts.items _ c.loop-scope-test.true c.loop-scope.invariant
