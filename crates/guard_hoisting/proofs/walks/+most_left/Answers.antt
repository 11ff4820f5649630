use Rattle.std.proofs.Common.{◌≡◌, ◌∙◌, ap, arith, sym}
use Rattle.middle_form.specs.ScopedViews.{scoped_code_of, scoped_sequence_of}
use Rattle.guard_hoisting.specs.Ways.{most_left}
use Rattle.scoped_building.proofs.Rows.{sequence_is}
use Rattle.guard_hoisting.proofs.walks.+most_left.Goals as goal

pub loop-part-init : goal.loop-part-init
loop-part-init t c =
    let whole : most_left (scoped_code_of c.args.code.now) ≡ most_left (scoped_sequence_of c.deref-part-items.result.now) =
    ap (λ x. most_left (scoped_code_of x)) c.in-Sequence.is ∙ ap most_left (sequence_is c.in-Sequence.parts) ∙ ap (λ l. most_left (scoped_sequence_of l)) (sym c.deref-part-items.ensures.value) in
    omega (arith, whole)
