use Rattle.std.proofs.Common.{◌∙◌, ap, sym}
use Rattle.middle_form.specs.Discipline.{writes}
use Rattle.middle_form.specs.ScopedViews.{scoped_code_of, scoped_sequence_of}
use Rattle.scoped_building.proofs.Rows.{sequence_is}
use Rattle.codegen.proofs.known.+writes.Goals as goal

pub loop-part-init : goal.loop-part-init
loop-part-init t c =
    ap (λ x. writes (scoped_code_of x) c.args.register) c.in-Sequence.is ∙ ap (λ x. writes x c.args.register) (sequence_is c.in-Sequence.parts)
    ∙ ap (λ l. writes (scoped_sequence_of l) c.args.register) (sym c.deref-part-items.ensures.value)
