use Rattle.std.proofs.Common.{◌+◌, ◌++◌, ◌∙◌, ap, drop}
use Rattle.scoped_building.specs.Building.{codes}
use Rattle.guard_hoisting.specs.Hoisted.{closings}
use Rattle.guard_hoisting.proofs.Ranks.{closing_next}
use Rattle.guard_hoisting.proofs.moving.leave_all.Goals as goal

pub loop-scope-preserved : goal.loop-scope-preserved
loop-scope-preserved c =
    let ws = c.args.ways.now in
    let i = c.loop-scope.scope in
    ap (λ xs. codes xs ++ closings (i + 1) (drop (i + 1) ws)) c.in_ok-push.ensures.items ∙ closing_next ws i c.loop-scope.parts.items _ c.loop-scope-test.true c.loop-scope.invariant
