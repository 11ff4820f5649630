use Rattle.std.proofs.Common.{◌∙◌, ap, sym}
use Rattle.middle_form.specs.ScopedViews.{scoped_code_of, scoped_sequence_of}
use Rattle.guard_hoisting.specs.Ways.{is_quiet}
use Rattle.scoped_building.proofs.Rows.{sequence_is}
use Rattle.guard_hoisting.proofs.walks.+is_quiet.Goals as goal

pub loop-part-init : goal.loop-part-init
loop-part-init t c =
    ap (λ x. is_quiet (scoped_code_of x)) c.in-Sequence.is ∙ ap is_quiet (sequence_is c.in-Sequence.parts) ∙ ap (λ l. is_quiet (scoped_sequence_of l)) (sym c.deref-part-items.ensures.value)
