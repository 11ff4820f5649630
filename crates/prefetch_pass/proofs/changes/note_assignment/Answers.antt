use Rattle.std.proofs.Common.{◌∙◌, Option, ℕ, ap, sym}
use Rattle.code_form.specs.Code.{is_register}
use Rattle.prefetch_pass.specs.declared.changes.Assignment.{Assignment}
use Rattle.prefetch_pass.specs.Gathered.{changes_among}
use Rattle.prefetch_pass.specs.Raised.{noted_where}
use Rattle.prefetch_pass.proofs.Gathering.{among_more}
use Rattle.prefetch_pass.proofs.changes.note_assignment.Goals as goal

pub returns : goal.returns
returns c = λ r.
    let before = c.args.assignments.now.items in
    let a : Assignment = record { to = c.in-Some.to; change = c.args.change } in
    ap (changes_among r) c.in_ok-push.ensures.items
    ∙ (among_more r before a ∙ sym (ap (λ (o : Option ℕ). noted_where (is_register r o) c.args.change (changes_among r before)) c.in-Some.is))
