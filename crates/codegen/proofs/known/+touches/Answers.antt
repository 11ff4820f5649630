use Rattle.std.proofs.Common.{◌∙◌, ap, sym}
use Rattle.middle_form.specs.Discipline.{touches}
use Rattle.middle_form.specs.ScopedViews.{scoped_code_of, scoped_sequence_of}
use Rattle.scoped_building.proofs.Rows.{sequence_is}
use Rattle.codegen.proofs.known.+touches.Goals as goal

pub loop-part-init : goal.loop-part-init
loop-part-init t c =
    ap (λ x. touches (scoped_code_of x) c.args.scope) c.in-Sequence.is ∙ ap (λ x. touches x c.args.scope) (sequence_is c.in-Sequence.parts)
    ∙ ap (λ l. touches (scoped_sequence_of l) c.args.scope) (sym c.deref-part-items.ensures.value)
