use Rattle.std.proofs.Common.{sym, ap, subst, ◌∙◌, inl, inr}
use Rattle.std.specs.Prelude.{is_ok, not}
use Rattle.std.specs.List.{list_any}
use Rattle.std.proofs.lemmas.Result.{IfErr-weaker, err_from_is_err_and}
use Rattle.c0_source.specs.declared.fault.Fault.{Fault}
use Rattle.c0_syntax.specs.Views.{expression_of, simple_of_kind}
use Rattle.c0_rules.specs.FaultPaths.{NamedInSimple}
use Rattle.c0_types_flow.specs.FlowViews.{refused_by, told_of}
use Rattle.c0_rules.specs.Mentions.{Mention, mentions, simple_mentions}
use Rattle.c0_types_flow.proofs.Lists.{at_err, found_left, none_yet}
use Rattle.c0_types_flow.proofs.mentioned.Refused.check_simple.Goals as goal

pub returns-in_err-check_expression-in-Assign-clause-answers : goal.returns-in_err-check_expression-in-Assign-clause-answers
returns-in_err-check_expression-in-Assign-clause-answers c =
    let test = refused_by c.args.self.now in
    let x = c.in-Assign in
    let shape = ap (λ k. simple_mentions (simple_of_kind k)) x.is in
    let p = err_from_is_err_and c.from_residual.result c.from_residual.ensures.1 in
    ap is_ok p.1 ∙ found_left {A = Mention} test (mentions (expression_of x.destination)) (mentions (expression_of x.value)) c.in_err-check_expression-in-Assign.ensures.answers ∙ ap (λ z. not (list_any test z)) (sym shape)

pub returns-in_err-check_expression-in-Assign-clause-cause : goal.returns-in_err-check_expression-in-Assign-clause-cause
returns-in_err-check_expression-in-Assign-clause-cause c =
    let test = refused_by c.args.self.now in
    let told = told_of c.args.self.now in
    let x = c.in-Assign in
    let fault : Fault = c.in_err-check_expression-in-Assign.field-0.0 in
    let p = err_from_is_err_and c.from_residual.result c.from_residual.ensures.1 in
    let there = c.in_err-check_expression-in-Assign.ensures.cause in
    at_err c.from_residual.result p.0 fault (λ f. NamedInSimple test told f c.args.simple.now.kind) p.1 p.2 (subst (λ k. NamedInSimple test told fault k) (sym x.is) (inl there))

pub returns-in_ok-check_expression-in-Assign-clause-answers : goal.returns-in_ok-check_expression-in-Assign-clause-answers
returns-in_ok-check_expression-in-Assign-clause-answers c =
    let test = refused_by c.args.self.now in
    let x = c.in-Assign in
    let shape = ap (λ k. simple_mentions (simple_of_kind k)) x.is in
    none_yet {A = Mention} test (mentions (expression_of x.destination)) (mentions (expression_of x.value)) _ c.in_ok-check_expression-in-Assign.ensures.answers c.check_expression-in-Assign-2.ensures.answers ∙ ap (λ z. not (list_any test z)) (sym shape)

pub returns-in_ok-check_expression-in-Assign-clause-cause : goal.returns-in_ok-check_expression-in-Assign-clause-cause
returns-in_ok-check_expression-in-Assign-clause-cause c =
    let test = refused_by c.args.self.now in
    let told = told_of c.args.self.now in
    let x = c.in-Assign in
    let there = c.check_expression-in-Assign-2.ensures.cause in
    IfErr-weaker c.check_expression-in-Assign-2.result _ _ (λ f h. subst (λ k. NamedInSimple test told f k) (sym x.is) (inr h)) there

pub returns-in_err-check_expression-in-Update-clause-answers : goal.returns-in_err-check_expression-in-Update-clause-answers
returns-in_err-check_expression-in-Update-clause-answers c =
    let test = refused_by c.args.self.now in
    let x = c.in-Update in
    let shape = ap (λ k. simple_mentions (simple_of_kind k)) x.is in
    let p = err_from_is_err_and c.from_residual-in_err-check_expression-in-Update.result c.from_residual-in_err-check_expression-in-Update.ensures.1 in
    ap is_ok p.1 ∙ found_left {A = Mention} test (mentions (expression_of x.destination)) (mentions (expression_of x.value)) c.in_err-check_expression-in-Update.ensures.answers ∙ ap (λ z. not (list_any test z)) (sym shape)

pub returns-in_err-check_expression-in-Update-clause-cause : goal.returns-in_err-check_expression-in-Update-clause-cause
returns-in_err-check_expression-in-Update-clause-cause c =
    let test = refused_by c.args.self.now in
    let told = told_of c.args.self.now in
    let x = c.in-Update in
    let fault : Fault = c.in_err-check_expression-in-Update.field-0.0 in
    let p = err_from_is_err_and c.from_residual-in_err-check_expression-in-Update.result c.from_residual-in_err-check_expression-in-Update.ensures.1 in
    let there = c.in_err-check_expression-in-Update.ensures.cause in
    at_err c.from_residual-in_err-check_expression-in-Update.result p.0 fault (λ f. NamedInSimple test told f c.args.simple.now.kind) p.1 p.2 (subst (λ k. NamedInSimple test told fault k) (sym x.is) (inl there))

pub returns-in_ok-check_expression-in-Update-clause-answers : goal.returns-in_ok-check_expression-in-Update-clause-answers
returns-in_ok-check_expression-in-Update-clause-answers c =
    let test = refused_by c.args.self.now in
    let x = c.in-Update in
    let shape = ap (λ k. simple_mentions (simple_of_kind k)) x.is in
    none_yet {A = Mention} test (mentions (expression_of x.destination)) (mentions (expression_of x.value)) _ c.in_ok-check_expression-in-Update.ensures.answers c.check_expression-in-Update-2.ensures.answers ∙ ap (λ z. not (list_any test z)) (sym shape)

pub returns-in_ok-check_expression-in-Update-clause-cause : goal.returns-in_ok-check_expression-in-Update-clause-cause
returns-in_ok-check_expression-in-Update-clause-cause c =
    let test = refused_by c.args.self.now in
    let told = told_of c.args.self.now in
    let x = c.in-Update in
    let there = c.check_expression-in-Update-2.ensures.cause in
    IfErr-weaker c.check_expression-in-Update-2.result _ _ (λ f h. subst (λ k. NamedInSimple test told f k) (sym x.is) (inr h)) there
