use Rattle.std.proofs.Common.{◌∙◌, ap, sym}
use Rattle.middle_form.specs.ScopedViews.{scoped_code_of, scoped_sequence_of}
use Rattle.prefetch_pass.specs.Gathered.{changes_among}
use Rattle.prefetch_pass.specs.Raised.{changes_with}
use Rattle.scoped_building.proofs.Rows.{sequence_is}
use Rattle.prefetch_pass.proofs.changes.+note_assignments.Goals as goal

pub loop-part-init : goal.loop-part-init
loop-part-init t c = λ r.
    let all = changes_among r c.args.assignments.now.items in
    ap (λ l. changes_with r (scoped_sequence_of l) all) c.deref-part-items.ensures.value ∙ sym (ap (λ x. changes_with r (scoped_code_of x) all) c.in-Sequence.is ∙ ap (λ x. changes_with r x all) (sequence_is c.in-Sequence.parts))
