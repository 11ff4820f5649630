use Rattle.std.proofs.Common.{ℕ, Option, ◌∙◌, ap, sym}
use Rattle.middle_form.specs.Discipline.{after, wrote}
use Rattle.middle_form.specs.ScopedViews.{scoped_code_of}
use Rattle.middle_form.specs.declared.scoped.ScopedCode.{ScopedCode}
use Rattle.codegen.specs.Building.{knows_of}
use Rattle.codegen.proofs.Rows.{not_straight}
use Rattle.codegen.proofs.known.after_straight.Goals as goal

pub returns-in-Do : goal.returns-in-Do
returns-in-Do c = λ h.
    c.forget_some.ensures c.args.scope ∙ ap (λ (w : Option ℕ). wrote w (λ _. knows_of c.args.before) c.args.scope) c.written_by.ensures
    ∙ sym (ap (λ (q : ScopedCode). after (scoped_code_of q) (λ _. knows_of c.args.before) c.args.scope) c.in-Do.is)

pub returns-in-Call : goal.returns-in-Call
returns-in-Call c = λ h.
    c.forget_some-in-Call.ensures c.args.scope ∙ sym (ap (λ (q : ScopedCode). after (scoped_code_of q) (λ _. knows_of c.args.before) c.args.scope) c.in-Call.is)

pub returns-in_default : goal.returns-in_default
returns-in_default c h =
    let d = c.in_default in
    not_straight c.args.code.now d.not-Do d.not-Load d.not-Store d.not-LoadBy d.not-StoreBy d.not-Aim d.not-Leave d.not-Loose d.not-Call d.not-Fail d.not-Exit h
