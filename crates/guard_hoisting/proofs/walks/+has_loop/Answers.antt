use Rattle.std.proofs.Common.{◌∙◌, ap, sym}
use Rattle.middle_form.specs.ScopedViews.{scoped_code_of, scoped_sequence_of}
use Rattle.guard_hoisting.specs.Ways.{has_loop}
use Rattle.scoped_building.proofs.Rows.{sequence_is}
use Rattle.guard_hoisting.proofs.walks.+has_loop.Goals as goal

pub loop-part-init : goal.loop-part-init
loop-part-init t c =
    ap (λ x. has_loop (scoped_code_of x)) c.in-Sequence.is ∙ ap has_loop (sequence_is c.in-Sequence.parts) ∙ ap (λ l. has_loop (scoped_sequence_of l)) (sym c.deref-part-items.ensures.value)
