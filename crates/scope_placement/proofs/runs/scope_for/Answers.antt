use Rattle.std.proofs.Common.{◌<◌, ◌∙◌, ap, arith, get_or, length, sym}
use Rattle.scope_placement.specs.Placed.{scope_for}
use Rattle.scope_placement.proofs.Opening.{scope_next}
use Rattle.scope_placement.proofs.runs.scope_for.Goals as goal

pub loop-scope-preserved : goal.loop-scope-preserved
loop-scope-preserved c =
    let rs = c.args.registers.now in
    let same = c.from-index.ensures in
    let there : c.loop-scope.scope < length rs = omega (arith, same, c.if-index-registers.false) in
    scope_next c.args.register rs c.loop-scope.scope (scope_for c.args.register rs) c.loop-scope-test.true there (λ e. c.if-registers-index.false (ap (λ i. get_or rs i 0) same ∙ sym e)) c.loop-scope.invariant
