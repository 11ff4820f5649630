use Rattle.std.proofs.Common.{◌∙◌, ap, sym}
use Rattle.middle_form.specs.ScopedViews.{scoped_code_of, scoped_sequence_of}
use Rattle.guard_hoisting.specs.Ways.{uses_with}
use Rattle.scoped_building.proofs.Rows.{sequence_is}
use Rattle.guard_hoisting.proofs.walks.+note_uses.Goals as goal

pub loop-part-init : goal.loop-part-init
loop-part-init t c = λ h.
    let us = c.args.uses.now.items in
    (h, ap (λ l. uses_with (scoped_sequence_of l) us) c.deref-part-items.ensures.value ∙ sym (ap (λ x. uses_with (scoped_code_of x) us) c.in-Sequence.is ∙ ap (λ x. uses_with x us) (sequence_is c.in-Sequence.parts)))
