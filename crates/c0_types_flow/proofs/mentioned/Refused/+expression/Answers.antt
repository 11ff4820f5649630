use Rattle.std.proofs.Common.{refl, ◌≡◌, ◌++◌, sym, ap, subst, ◌∙◌, rules, inl, inr}
use Rattle.std.specs.Prelude.{is_ok, not}
use Rattle.std.proofs.lemmas.Result.{IfErr-weaker, err_from_is_err_and}
use Rattle.std.specs.List.{Any, list_any}
use Rattle.c0_source.specs.declared.fault.Fault.{Fault}
use Rattle.c0_syntax.specs.declared.expression.Expression.{Expression}
use Rattle.c0_syntax.specs.Views.{expression_of, expression_of_kind, expressions_of, name_of}
use Rattle.c0_rules.specs.FaultPaths.{NamedIn}
use Rattle.c0_types_flow.specs.FlowViews.{refused_by, told_of}
use Rattle.c0_rules.specs.Mentions.{Mention, OfFunction, mentions, argument_mentions}
use Rattle.c0_types_flow.proofs.Lists.{at_err, step_past, found_left, found_right, none_yet, none_of_three, none_first, any_at}
use Rattle.c0_types_flow.proofs.Rows.{call_is, named_call}
use Rattle.c0_types_flow.proofs.mentioned.Refused.+expression.Goals as goal

pub check_arguments-returns-in_err-check_expression-clause-cause : goal.check_arguments-returns-in_err-check_expression-clause-cause
check_arguments-returns-in_err-check_expression-clause-cause t c =
    let P : Expression → Type 0 = λ e. NamedIn (refused_by c.args.self.now) (told_of c.args.self.now) c.in_err-check_expression.field-0.0 e.kind e.span in
    let found = any_at P c.deref-argument-items.result.now c.loop-argument.argument-index c.argument-item.result c.loop-argument-test.true c.argument-item.is c.in_err-check_expression.ensures.cause in
    let p = err_from_is_err_and c.from_residual.result c.from_residual.ensures.1 in
    rw (p.1, p.2) (subst (Any P) c.deref-argument-items.ensures.value found)

pub check_arguments-loop-argument-preserved : goal.check_arguments-loop-argument-preserved
check_arguments-loop-argument-preserved t c = step_past (refused_by c.args.self.now) (λ e. mentions (expression_of e)) (λ xs. argument_mentions (expressions_of xs)) (λ x xs. refl) c.deref-argument-items.result.now c.loop-argument.argument-index c.argument-item.result c.loop-argument-test.true c.argument-item.is c.in_ok-check_expression.ensures.answers ∙ c.loop-argument.invariant

pub check_expression-returns-in_ok-verdict-in-Call-clause-answers : goal.check_expression-returns-in_ok-verdict-in-Call-clause-answers
check_expression-returns-in_ok-verdict-in-Call-clause-answers t c =
    let shape = ap expression_of_kind c.in-Call.is ∙ call_is c.in-Call.name c.in-Call.arguments in
    let same : c.refuses_function.result ≡ refused_by c.args.self.now (OfFunction (name_of c.in-Call.name)) = search rules in
    rw shape (none_first {A = Mention} (refused_by c.args.self.now) (OfFunction (name_of c.in-Call.name)) (argument_mentions (expressions_of c.in-Call.arguments.items)) c.refuses_function.result _ same c.in_ok-verdict-in-Call.ensures.answers c.check_arguments.ensures.answers)

pub check_expression-returns-in_ok-verdict-in-Call-clause-cause : goal.check_expression-returns-in_ok-verdict-in-Call-clause-cause
check_expression-returns-in_ok-verdict-in-Call-clause-cause t c =
    IfErr-weaker c.check_arguments.result _ _ (λ f h. subst (λ k. NamedIn (refused_by c.args.self.now) (told_of c.args.self.now) f k c.args.expression.now.span) (sym c.in-Call.is) (named_call (refused_by c.args.self.now) (told_of c.args.self.now) f c.in-Call.name c.in-Call.arguments c.args.expression.now.span h)) c.check_arguments.ensures.cause

pub check_expression-returns-in_err-check_expression-in-Index-clause-answers : goal.check_expression-returns-in_err-check_expression-in-Index-clause-answers
check_expression-returns-in_err-check_expression-in-Index-clause-answers t c =
    let test = refused_by c.args.self.now in
    let x = c.in-Index in
    let shape = ap (λ k. mentions (expression_of_kind k)) x.is in
    let p = err_from_is_err_and c.from_residual-in_err-check_expression-in-Index.result c.from_residual-in_err-check_expression-in-Index.ensures.1 in
    ap is_ok p.1 ∙ found_left {A = Mention} test (mentions (expression_of x.array.value)) (mentions (expression_of x.index.value)) (rw c.deref-in-Index.ensures at c.in_err-check_expression-in-Index.ensures.answers) ∙ ap (λ z. not (list_any test z)) (sym shape)

pub check_expression-returns-in_err-check_expression-in-Index-clause-cause : goal.check_expression-returns-in_err-check_expression-in-Index-clause-cause
check_expression-returns-in_err-check_expression-in-Index-clause-cause t c =
    let test = refused_by c.args.self.now in
    let told = told_of c.args.self.now in
    let x = c.in-Index in
    let fault : Fault = c.in_err-check_expression-in-Index.field-0.0 in
    let p = err_from_is_err_and c.from_residual-in_err-check_expression-in-Index.result c.from_residual-in_err-check_expression-in-Index.ensures.1 in
    let there = (rw c.deref-in-Index.ensures at c.in_err-check_expression-in-Index.ensures.cause) in
    at_err c.from_residual-in_err-check_expression-in-Index.result p.0 fault (λ f. NamedIn test told f c.args.expression.now.kind c.args.expression.now.span) p.1 p.2 (subst (λ k. NamedIn test told fault k c.args.expression.now.span) (sym x.is) (inl there))

pub check_expression-returns-in_ok-check_expression-in-Index-clause-answers : goal.check_expression-returns-in_ok-check_expression-in-Index-clause-answers
check_expression-returns-in_ok-check_expression-in-Index-clause-answers t c =
    let test = refused_by c.args.self.now in
    let x = c.in-Index in
    let shape = ap (λ k. mentions (expression_of_kind k)) x.is in
    none_yet {A = Mention} test (mentions (expression_of x.array.value)) (mentions (expression_of x.index.value)) _ (rw c.deref-in-Index.ensures at c.in_ok-check_expression-in-Index.ensures.answers) (rw c.deref-in-Index-2.ensures at c.check_expression-in-Index-2.ensures.answers) ∙ ap (λ z. not (list_any test z)) (sym shape)

pub check_expression-returns-in_ok-check_expression-in-Index-clause-cause : goal.check_expression-returns-in_ok-check_expression-in-Index-clause-cause
check_expression-returns-in_ok-check_expression-in-Index-clause-cause t c =
    let test = refused_by c.args.self.now in
    let told = told_of c.args.self.now in
    let x = c.in-Index in
    let there = (rw c.deref-in-Index-2.ensures at c.check_expression-in-Index-2.ensures.cause) in
    IfErr-weaker c.check_expression-in-Index-2.result _ _ (λ f h. subst (λ k. NamedIn test told f k c.args.expression.now.span) (sym x.is) (inr h)) there

pub check_expression-returns-in_err-check_expression-in-Binary-clause-answers : goal.check_expression-returns-in_err-check_expression-in-Binary-clause-answers
check_expression-returns-in_err-check_expression-in-Binary-clause-answers t c =
    let test = refused_by c.args.self.now in
    let x = c.in-Binary in
    let shape = ap (λ k. mentions (expression_of_kind k)) x.is in
    let p = err_from_is_err_and c.from_residual-in_err-check_expression-in-Binary.result c.from_residual-in_err-check_expression-in-Binary.ensures.1 in
    ap is_ok p.1 ∙ found_left {A = Mention} test (mentions (expression_of x.left.value)) (mentions (expression_of x.right.value)) (rw c.deref-in-Binary.ensures at c.in_err-check_expression-in-Binary.ensures.answers) ∙ ap (λ z. not (list_any test z)) (sym shape)

pub check_expression-returns-in_err-check_expression-in-Binary-clause-cause : goal.check_expression-returns-in_err-check_expression-in-Binary-clause-cause
check_expression-returns-in_err-check_expression-in-Binary-clause-cause t c =
    let test = refused_by c.args.self.now in
    let told = told_of c.args.self.now in
    let x = c.in-Binary in
    let fault : Fault = c.in_err-check_expression-in-Binary.field-0.0 in
    let p = err_from_is_err_and c.from_residual-in_err-check_expression-in-Binary.result c.from_residual-in_err-check_expression-in-Binary.ensures.1 in
    let there = (rw c.deref-in-Binary.ensures at c.in_err-check_expression-in-Binary.ensures.cause) in
    at_err c.from_residual-in_err-check_expression-in-Binary.result p.0 fault (λ f. NamedIn test told f c.args.expression.now.kind c.args.expression.now.span) p.1 p.2 (subst (λ k. NamedIn test told fault k c.args.expression.now.span) (sym x.is) (inl there))

pub check_expression-returns-in_ok-check_expression-in-Binary-clause-answers : goal.check_expression-returns-in_ok-check_expression-in-Binary-clause-answers
check_expression-returns-in_ok-check_expression-in-Binary-clause-answers t c =
    let test = refused_by c.args.self.now in
    let x = c.in-Binary in
    let shape = ap (λ k. mentions (expression_of_kind k)) x.is in
    none_yet {A = Mention} test (mentions (expression_of x.left.value)) (mentions (expression_of x.right.value)) _ (rw c.deref-in-Binary.ensures at c.in_ok-check_expression-in-Binary.ensures.answers) (rw c.deref-in-Binary-2.ensures at c.check_expression-in-Binary-2.ensures.answers) ∙ ap (λ z. not (list_any test z)) (sym shape)

pub check_expression-returns-in_ok-check_expression-in-Binary-clause-cause : goal.check_expression-returns-in_ok-check_expression-in-Binary-clause-cause
check_expression-returns-in_ok-check_expression-in-Binary-clause-cause t c =
    let test = refused_by c.args.self.now in
    let told = told_of c.args.self.now in
    let x = c.in-Binary in
    let there = (rw c.deref-in-Binary-2.ensures at c.check_expression-in-Binary-2.ensures.cause) in
    IfErr-weaker c.check_expression-in-Binary-2.result _ _ (λ f h. subst (λ k. NamedIn test told f k c.args.expression.now.span) (sym x.is) (inr h)) there

pub check_expression-returns-in_err-check_expression-in-Conditional-clause-answers : goal.check_expression-returns-in_err-check_expression-in-Conditional-clause-answers
check_expression-returns-in_err-check_expression-in-Conditional-clause-answers t c =
    let test = refused_by c.args.self.now in
    let x = c.in-Conditional in
    let shape = ap (λ k. mentions (expression_of_kind k)) x.is in
    let p = err_from_is_err_and c.from_residual-in_err-check_expression-in-Conditional.result c.from_residual-in_err-check_expression-in-Conditional.ensures.1 in
    ap is_ok p.1 ∙ found_left {A = Mention} test (mentions (expression_of x.condition.value) ++ mentions (expression_of x.first.value)) (mentions (expression_of x.second.value)) (found_left {A = Mention} test (mentions (expression_of x.condition.value)) (mentions (expression_of x.first.value)) (rw c.deref-in-Conditional.ensures at c.in_err-check_expression-in-Conditional.ensures.answers)) ∙ ap (λ z. not (list_any test z)) (sym shape)

pub check_expression-returns-in_err-check_expression-in-Conditional-clause-cause : goal.check_expression-returns-in_err-check_expression-in-Conditional-clause-cause
check_expression-returns-in_err-check_expression-in-Conditional-clause-cause t c =
    let test = refused_by c.args.self.now in
    let told = told_of c.args.self.now in
    let x = c.in-Conditional in
    let fault : Fault = c.in_err-check_expression-in-Conditional.field-0.0 in
    let p = err_from_is_err_and c.from_residual-in_err-check_expression-in-Conditional.result c.from_residual-in_err-check_expression-in-Conditional.ensures.1 in
    let there = (rw c.deref-in-Conditional.ensures at c.in_err-check_expression-in-Conditional.ensures.cause) in
    at_err c.from_residual-in_err-check_expression-in-Conditional.result p.0 fault (λ f. NamedIn test told f c.args.expression.now.kind c.args.expression.now.span) p.1 p.2 (subst (λ k. NamedIn test told fault k c.args.expression.now.span) (sym x.is) (inl there))

pub check_expression-returns-in_err-check_expression-in-Conditional-2-clause-answers : goal.check_expression-returns-in_err-check_expression-in-Conditional-2-clause-answers
check_expression-returns-in_err-check_expression-in-Conditional-2-clause-answers t c =
    let test = refused_by c.args.self.now in
    let x = c.in-Conditional in
    let shape = ap (λ k. mentions (expression_of_kind k)) x.is in
    let p = err_from_is_err_and c.from_residual-in_err-check_expression-in-Conditional-2.result c.from_residual-in_err-check_expression-in-Conditional-2.ensures.1 in
    ap is_ok p.1 ∙ found_left {A = Mention} test (mentions (expression_of x.condition.value) ++ mentions (expression_of x.first.value)) (mentions (expression_of x.second.value)) (found_right {A = Mention} test (mentions (expression_of x.condition.value)) (mentions (expression_of x.first.value)) (rw c.deref-in-Conditional-2.ensures at c.in_err-check_expression-in-Conditional-2.ensures.answers)) ∙ ap (λ z. not (list_any test z)) (sym shape)

pub check_expression-returns-in_err-check_expression-in-Conditional-2-clause-cause : goal.check_expression-returns-in_err-check_expression-in-Conditional-2-clause-cause
check_expression-returns-in_err-check_expression-in-Conditional-2-clause-cause t c =
    let test = refused_by c.args.self.now in
    let told = told_of c.args.self.now in
    let x = c.in-Conditional in
    let fault : Fault = c.in_err-check_expression-in-Conditional-2.field-0.0 in
    let p = err_from_is_err_and c.from_residual-in_err-check_expression-in-Conditional-2.result c.from_residual-in_err-check_expression-in-Conditional-2.ensures.1 in
    let there = (rw c.deref-in-Conditional-2.ensures at c.in_err-check_expression-in-Conditional-2.ensures.cause) in
    at_err c.from_residual-in_err-check_expression-in-Conditional-2.result p.0 fault (λ f. NamedIn test told f c.args.expression.now.kind c.args.expression.now.span) p.1 p.2 (subst (λ k. NamedIn test told fault k c.args.expression.now.span) (sym x.is) (inr (inl there)))

pub check_expression-returns-in_ok-check_expression-in-Conditional-2-clause-answers : goal.check_expression-returns-in_ok-check_expression-in-Conditional-2-clause-answers
check_expression-returns-in_ok-check_expression-in-Conditional-2-clause-answers t c =
    let test = refused_by c.args.self.now in
    let x = c.in-Conditional in
    let shape = ap (λ k. mentions (expression_of_kind k)) x.is in
    none_of_three {A = Mention} test (mentions (expression_of x.condition.value)) (mentions (expression_of x.first.value)) (mentions (expression_of x.second.value)) _ (rw c.deref-in-Conditional.ensures at c.in_ok-check_expression-in-Conditional.ensures.answers) (rw c.deref-in-Conditional-2.ensures at c.in_ok-check_expression-in-Conditional-2.ensures.answers) (rw c.deref-in-Conditional-3.ensures at c.check_expression-in-Conditional-3.ensures.answers) ∙ ap (λ z. not (list_any test z)) (sym shape)

pub check_expression-returns-in_ok-check_expression-in-Conditional-2-clause-cause : goal.check_expression-returns-in_ok-check_expression-in-Conditional-2-clause-cause
check_expression-returns-in_ok-check_expression-in-Conditional-2-clause-cause t c =
    let test = refused_by c.args.self.now in
    let told = told_of c.args.self.now in
    let x = c.in-Conditional in
    let there = (rw c.deref-in-Conditional-3.ensures at c.check_expression-in-Conditional-3.ensures.cause) in
    IfErr-weaker c.check_expression-in-Conditional-3.result _ _ (λ f h. subst (λ k. NamedIn test told f k c.args.expression.now.span) (sym x.is) (inr (inr h))) there
