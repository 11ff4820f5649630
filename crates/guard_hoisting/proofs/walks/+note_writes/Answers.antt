use Rattle.std.proofs.Common.{◌||◌, ◌∙◌, Bool, ap, sym}
use Rattle.std.specs.Prelude.{nat_eq}
use Rattle.std.specs.HashSet.{contains}
use Rattle.middle_form.specs.Discipline.{writes}
use Rattle.middle_form.specs.ScopedViews.{scoped_code_of, scoped_sequence_of}
use Rattle.scoped_building.proofs.Rows.{sequence_is}
use Rattle.guard_hoisting.proofs.walks.+note_writes.Goals as goal

pub loop-part-init : goal.loop-part-init
loop-part-init t c = λ r.
    let before : Bool = contains nat_eq c.args.written.now r in
    ap (λ l. before || writes (scoped_sequence_of l) r) c.deref-part-items.ensures.value
    ∙ sym (ap (λ x. before || writes (scoped_code_of x) r) c.in-Sequence.is ∙ ap (λ x. before || writes x r) (sequence_is c.in-Sequence.parts))
