use Rattle.std.proofs.Common.{◌∙◌, ap, sym}
use Rattle.middle_form.specs.ScopedViews.{scoped_code_of, scoped_sequence_of}
use Rattle.prefetch_pass.specs.Gathered.{has_checks}
use Rattle.scoped_building.proofs.Rows.{sequence_is}
use Rattle.prefetch_pass.proofs.offsets.+has_checks.Goals as goal

pub loop-part-init : goal.loop-part-init
loop-part-init t c =
    ap (λ x. has_checks (scoped_code_of x)) c.in-Sequence.is ∙ ap has_checks (sequence_is c.in-Sequence.parts) ∙ ap (λ l. has_checks (scoped_sequence_of l)) (sym c.deref-part-items.ensures.value)
