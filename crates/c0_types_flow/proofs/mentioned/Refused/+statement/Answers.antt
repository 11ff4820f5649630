use Rattle.std.proofs.Common.{List, map, ◌++◌, ap, ◌∙◌, sym, subst, inl, inr, refl, option_map}
use Rattle.std.specs.Prelude.{is_ok, not}
use Rattle.std.specs.List.{list_any}
use Rattle.c0_source.specs.declared.fault.Fault.{Fault}
use Rattle.std.proofs.lemmas.Result.{IfErr-weaker, err_from_is_err_and}
use Rattle.c0_syntax.specs.declared.statement.Statement.{Statement}
use Rattle.c0_syntax.specs.Views.{annotation_of, expression_of, simple_of, statement_of, statement_of_kind, statements_of}
use Rattle.c0_rules.specs.FaultPaths.{NamedInStatement, NamedInBody}
use Rattle.c0_types_flow.specs.FlowViews.{refused_by, told_of}
use Rattle.c0_rules.specs.Mentions.{Mention, mentions, part_mentions, spec_mentions, specs_in, statement_mentions, statements_mentions}
use Rattle.c0_types_flow.proofs.Lists.{at_place, at_err, before_two, step_past, found_left, found_right, none_yet, none_of_three}
use Rattle.c0_types_flow.proofs.Rows.{block_is, named_block}
use Rattle.c0_types_flow.proofs.mentioned.Refused.+statement.Goals as goal

pub check_body-returns-in_err-check_statement-clause-cause : goal.check_body-returns-in_err-check_statement-clause-cause
check_body-returns-in_err-check_statement-clause-cause t c =
    let P : Statement → Type 0 = λ x. NamedInStatement (refused_by c.args.self.now) (told_of c.args.self.now) c.in_err-check_statement.field-0.0 x.kind in
    let Q : List Statement → Type 0 = NamedInBody (refused_by c.args.self.now) (told_of c.args.self.now) c.in_err-check_statement.field-0.0 in
    let p = err_from_is_err_and c.from_residual.result c.from_residual.ensures.1 in
    rw (p.1, p.2) (at_place P Q (λ x xs h. inl h) (λ x xs h. inr h) c.args.body.now c.loop-statement.statement-index c.statement-item.result c.loop-statement-test.true c.statement-item.is c.in_err-check_statement.ensures.cause)

pub check_body-loop-statement-preserved : goal.check_body-loop-statement-preserved
check_body-loop-statement-preserved t c =
    step_past (refused_by c.args.self.now) (λ x. statement_mentions (statement_of x)) (λ xs. statements_mentions (statements_of xs)) (λ x xs. refl) c.args.body.now c.loop-statement.statement-index c.statement-item.result c.loop-statement-test.true c.statement-item.is c.in_ok-check_statement.ensures.answers
    ∙ c.loop-statement.invariant

pub check_statement-returns-in-Block-clause-answers : goal.check_statement-returns-in-Block-clause-answers
check_statement-returns-in-Block-clause-answers t c =
    let shape = ap statement_of_kind c.in-Block.is ∙ block_is c.in-Block.statements in
    rw shape (rw c.deref.ensures.value at c.check_body.ensures.answers)

pub check_statement-returns-in-Block-clause-cause : goal.check_statement-returns-in-Block-clause-cause
check_statement-returns-in-Block-clause-cause t c =
    let test = refused_by c.args.self.now in
    let told = told_of c.args.self.now in
    IfErr-weaker c.check_body.result _ _ (λ f h. subst (NamedInStatement test told f) (sym c.in-Block.is) (named_block test told f c.in-Block.statements (subst (NamedInBody test told f) c.deref.ensures.value h))) c.check_body.ensures.cause

pub check_statement-returns-in_err-check_expression-in-If-clause-answers : goal.check_statement-returns-in_err-check_expression-in-If-clause-answers
check_statement-returns-in_err-check_expression-in-If-clause-answers t c =
    let test = refused_by c.args.self.now in
    let x = c.in-If in
    let shape = ap (λ k. statement_mentions (statement_of_kind k)) x.is in
    let p = err_from_is_err_and c.from_residual.result c.from_residual.ensures.1 in
    ap is_ok p.1 ∙ found_left {A = Mention} test (mentions (expression_of x.condition)) (statement_mentions (statement_of x.body.value)) c.in_err-check_expression-in-If.ensures.answers ∙ ap (λ z. not (list_any test z)) (sym shape)

pub check_statement-returns-in_err-check_expression-in-If-clause-cause : goal.check_statement-returns-in_err-check_expression-in-If-clause-cause
check_statement-returns-in_err-check_expression-in-If-clause-cause t c =
    let test = refused_by c.args.self.now in
    let told = told_of c.args.self.now in
    let x = c.in-If in
    let fault : Fault = c.in_err-check_expression-in-If.field-0.0 in
    let p = err_from_is_err_and c.from_residual.result c.from_residual.ensures.1 in
    let there = c.in_err-check_expression-in-If.ensures.cause in
    at_err c.from_residual.result p.0 fault (λ f. NamedInStatement test told f c.args.statement.now.kind) p.1 p.2 (subst (NamedInStatement test told fault) (sym x.is) (inl there))

pub check_statement-returns-in_ok-check_expression-in-If-clause-answers : goal.check_statement-returns-in_ok-check_expression-in-If-clause-answers
check_statement-returns-in_ok-check_expression-in-If-clause-answers t c =
    let test = refused_by c.args.self.now in
    let x = c.in-If in
    let shape = ap (λ k. statement_mentions (statement_of_kind k)) x.is in
    none_yet {A = Mention} test (mentions (expression_of x.condition)) (statement_mentions (statement_of x.body.value)) _ c.in_ok-check_expression-in-If.ensures.answers (rw c.deref-in-If.ensures at c.check_statement.ensures.answers) ∙ ap (λ z. not (list_any test z)) (sym shape)

pub check_statement-returns-in_ok-check_expression-in-If-clause-cause : goal.check_statement-returns-in_ok-check_expression-in-If-clause-cause
check_statement-returns-in_ok-check_expression-in-If-clause-cause t c =
    let test = refused_by c.args.self.now in
    let told = told_of c.args.self.now in
    let x = c.in-If in
    let there = rw c.deref-in-If.ensures at c.check_statement.ensures.cause in
    IfErr-weaker c.check_statement.result _ _ (λ f h. subst (NamedInStatement test told f) (sym x.is) (inr h)) there

pub check_statement-returns-in_err-check_expression-in-IfElse-clause-answers : goal.check_statement-returns-in_err-check_expression-in-IfElse-clause-answers
check_statement-returns-in_err-check_expression-in-IfElse-clause-answers t c =
    let test = refused_by c.args.self.now in
    let x = c.in-IfElse in
    let shape = ap (λ k. statement_mentions (statement_of_kind k)) x.is in
    let p = err_from_is_err_and c.from_residual-in_err-check_expression-in-IfElse.result c.from_residual-in_err-check_expression-in-IfElse.ensures.1 in
    ap is_ok p.1 ∙ found_left {A = Mention} test ((mentions (expression_of x.condition)) ++ statement_mentions (statement_of x.first.value)) (statement_mentions (statement_of x.second.value)) (found_left {A = Mention} test (mentions (expression_of x.condition)) (statement_mentions (statement_of x.first.value)) c.in_err-check_expression-in-IfElse.ensures.answers) ∙ ap (λ z. not (list_any test z)) (sym shape)

pub check_statement-returns-in_err-check_expression-in-IfElse-clause-cause : goal.check_statement-returns-in_err-check_expression-in-IfElse-clause-cause
check_statement-returns-in_err-check_expression-in-IfElse-clause-cause t c =
    let test = refused_by c.args.self.now in
    let told = told_of c.args.self.now in
    let x = c.in-IfElse in
    let fault : Fault = c.in_err-check_expression-in-IfElse.field-0.0 in
    let p = err_from_is_err_and c.from_residual-in_err-check_expression-in-IfElse.result c.from_residual-in_err-check_expression-in-IfElse.ensures.1 in
    let there = c.in_err-check_expression-in-IfElse.ensures.cause in
    at_err c.from_residual-in_err-check_expression-in-IfElse.result p.0 fault (λ f. NamedInStatement test told f c.args.statement.now.kind) p.1 p.2 (subst (NamedInStatement test told fault) (sym x.is) (inl there))

pub check_statement-returns-in_err-check_statement-in-IfElse-clause-answers : goal.check_statement-returns-in_err-check_statement-in-IfElse-clause-answers
check_statement-returns-in_err-check_statement-in-IfElse-clause-answers t c =
    let test = refused_by c.args.self.now in
    let x = c.in-IfElse in
    let shape = ap (λ k. statement_mentions (statement_of_kind k)) x.is in
    let p = err_from_is_err_and c.from_residual-in_err-check_statement-in-IfElse.result c.from_residual-in_err-check_statement-in-IfElse.ensures.1 in
    ap is_ok p.1 ∙ found_left {A = Mention} test ((mentions (expression_of x.condition)) ++ statement_mentions (statement_of x.first.value)) (statement_mentions (statement_of x.second.value)) (found_right {A = Mention} test (mentions (expression_of x.condition)) (statement_mentions (statement_of x.first.value)) (rw c.deref-in-IfElse.ensures at c.in_err-check_statement-in-IfElse.ensures.answers)) ∙ ap (λ z. not (list_any test z)) (sym shape)

pub check_statement-returns-in_err-check_statement-in-IfElse-clause-cause : goal.check_statement-returns-in_err-check_statement-in-IfElse-clause-cause
check_statement-returns-in_err-check_statement-in-IfElse-clause-cause t c =
    let test = refused_by c.args.self.now in
    let told = told_of c.args.self.now in
    let x = c.in-IfElse in
    let fault : Fault = c.in_err-check_statement-in-IfElse.field-0.0 in
    let p = err_from_is_err_and c.from_residual-in_err-check_statement-in-IfElse.result c.from_residual-in_err-check_statement-in-IfElse.ensures.1 in
    let there = (rw c.deref-in-IfElse.ensures at c.in_err-check_statement-in-IfElse.ensures.cause) in
    at_err c.from_residual-in_err-check_statement-in-IfElse.result p.0 fault (λ f. NamedInStatement test told f c.args.statement.now.kind) p.1 p.2 (subst (NamedInStatement test told fault) (sym x.is) (inr (inl there)))

pub check_statement-returns-in_ok-check_statement-in-IfElse-clause-answers : goal.check_statement-returns-in_ok-check_statement-in-IfElse-clause-answers
check_statement-returns-in_ok-check_statement-in-IfElse-clause-answers t c =
    let test = refused_by c.args.self.now in
    let x = c.in-IfElse in
    let shape = ap (λ k. statement_mentions (statement_of_kind k)) x.is in
    none_of_three {A = Mention} test (mentions (expression_of x.condition)) (statement_mentions (statement_of x.first.value)) (statement_mentions (statement_of x.second.value)) _ c.in_ok-check_expression-in-IfElse.ensures.answers (rw c.deref-in-IfElse.ensures at c.in_ok-check_statement-in-IfElse.ensures.answers) (rw c.deref-in-IfElse-2.ensures at c.check_statement-in-IfElse-2.ensures.answers) ∙ ap (λ z. not (list_any test z)) (sym shape)

pub check_statement-returns-in_ok-check_statement-in-IfElse-clause-cause : goal.check_statement-returns-in_ok-check_statement-in-IfElse-clause-cause
check_statement-returns-in_ok-check_statement-in-IfElse-clause-cause t c =
    let test = refused_by c.args.self.now in
    let told = told_of c.args.self.now in
    let x = c.in-IfElse in
    let there = rw c.deref-in-IfElse-2.ensures at c.check_statement-in-IfElse-2.ensures.cause in
    IfErr-weaker c.check_statement-in-IfElse-2.result _ _ (λ f h. subst (NamedInStatement test told f) (sym x.is) (inr (inr h))) there

pub check_statement-returns-in_err-check_expression-in-While-clause-answers : goal.check_statement-returns-in_err-check_expression-in-While-clause-answers
check_statement-returns-in_err-check_expression-in-While-clause-answers t c =
    let test = refused_by c.args.self.now in
    let x = c.in-While in
    let shape = ap (λ k. statement_mentions (statement_of_kind k)) x.is in
    let p = err_from_is_err_and c.from_residual-in_err-check_expression-in-While.result c.from_residual-in_err-check_expression-in-While.ensures.1 in
    ap is_ok p.1 ∙ found_left {A = Mention} test ((mentions (expression_of x.condition)) ++ spec_mentions (specs_in (map annotation_of x.annotations.items))) (statement_mentions (statement_of x.body.value)) (found_left {A = Mention} test (mentions (expression_of x.condition)) (spec_mentions (specs_in (map annotation_of x.annotations.items))) c.in_err-check_expression-in-While.ensures.answers) ∙ ap (λ z. not (list_any test z)) (sym shape)

pub check_statement-returns-in_err-check_expression-in-While-clause-cause : goal.check_statement-returns-in_err-check_expression-in-While-clause-cause
check_statement-returns-in_err-check_expression-in-While-clause-cause t c =
    let test = refused_by c.args.self.now in
    let told = told_of c.args.self.now in
    let x = c.in-While in
    let fault : Fault = c.in_err-check_expression-in-While.field-0.0 in
    let p = err_from_is_err_and c.from_residual-in_err-check_expression-in-While.result c.from_residual-in_err-check_expression-in-While.ensures.1 in
    let there = c.in_err-check_expression-in-While.ensures.cause in
    at_err c.from_residual-in_err-check_expression-in-While.result p.0 fault (λ f. NamedInStatement test told f c.args.statement.now.kind) p.1 p.2 (subst (NamedInStatement test told fault) (sym x.is) (inl there))

pub check_statement-returns-in_err-check_annotations-in-While-clause-answers : goal.check_statement-returns-in_err-check_annotations-in-While-clause-answers
check_statement-returns-in_err-check_annotations-in-While-clause-answers t c =
    let test = refused_by c.args.self.now in
    let x = c.in-While in
    let shape = ap (λ k. statement_mentions (statement_of_kind k)) x.is in
    let p = err_from_is_err_and c.from_residual-in_err-check_annotations-in-While.result c.from_residual-in_err-check_annotations-in-While.ensures.1 in
    ap is_ok p.1 ∙ found_left {A = Mention} test ((mentions (expression_of x.condition)) ++ spec_mentions (specs_in (map annotation_of x.annotations.items))) (statement_mentions (statement_of x.body.value)) (found_right {A = Mention} test (mentions (expression_of x.condition)) (spec_mentions (specs_in (map annotation_of x.annotations.items))) (rw c.deref-in-While.ensures.value at c.in_err-check_annotations-in-While.ensures.answers)) ∙ ap (λ z. not (list_any test z)) (sym shape)

pub check_statement-returns-in_err-check_annotations-in-While-clause-cause : goal.check_statement-returns-in_err-check_annotations-in-While-clause-cause
check_statement-returns-in_err-check_annotations-in-While-clause-cause t c =
    let test = refused_by c.args.self.now in
    let told = told_of c.args.self.now in
    let x = c.in-While in
    let fault : Fault = c.in_err-check_annotations-in-While.field-0.0 in
    let p = err_from_is_err_and c.from_residual-in_err-check_annotations-in-While.result c.from_residual-in_err-check_annotations-in-While.ensures.1 in
    let there = (rw c.deref-in-While.ensures.value at c.in_err-check_annotations-in-While.ensures.cause) in
    at_err c.from_residual-in_err-check_annotations-in-While.result p.0 fault (λ f. NamedInStatement test told f c.args.statement.now.kind) p.1 p.2 (subst (NamedInStatement test told fault) (sym x.is) (inr (inl there)))

pub check_statement-returns-in_ok-check_annotations-in-While-clause-answers : goal.check_statement-returns-in_ok-check_annotations-in-While-clause-answers
check_statement-returns-in_ok-check_annotations-in-While-clause-answers t c =
    let test = refused_by c.args.self.now in
    let x = c.in-While in
    let shape = ap (λ k. statement_mentions (statement_of_kind k)) x.is in
    none_of_three {A = Mention} test (mentions (expression_of x.condition)) (spec_mentions (specs_in (map annotation_of x.annotations.items))) (statement_mentions (statement_of x.body.value)) _ c.in_ok-check_expression-in-While.ensures.answers (rw c.deref-in-While.ensures.value at c.in_ok-check_annotations-in-While.ensures.answers) (rw c.deref-in-While-2.ensures at c.check_statement-in-While.ensures.answers) ∙ ap (λ z. not (list_any test z)) (sym shape)

pub check_statement-returns-in_ok-check_annotations-in-While-clause-cause : goal.check_statement-returns-in_ok-check_annotations-in-While-clause-cause
check_statement-returns-in_ok-check_annotations-in-While-clause-cause t c =
    let test = refused_by c.args.self.now in
    let told = told_of c.args.self.now in
    let x = c.in-While in
    let there = rw c.deref-in-While-2.ensures at c.check_statement-in-While.ensures.cause in
    IfErr-weaker c.check_statement-in-While.result _ _ (λ f h. subst (NamedInStatement test told f) (sym x.is) (inr (inr h))) there

pub check_statement-returns-in_err-check_for_parts-in-For-clause-answers : goal.check_statement-returns-in_err-check_for_parts-in-For-clause-answers
check_statement-returns-in_err-check_for_parts-in-For-clause-answers t c =
    let test = refused_by c.args.self.now in
    let x = c.in-For in
    let shape = ap (λ k. statement_mentions (statement_of_kind k)) x.is in
    let p = err_from_is_err_and c.from_residual-in_err-check_for_parts-in-For.result c.from_residual-in_err-check_for_parts-in-For.ensures.1 in
    ap is_ok p.1 ∙ found_left {A = Mention} test ((part_mentions (option_map simple_of x.first) ++ mentions (expression_of x.condition) ++ part_mentions (option_map simple_of x.third)) ++ spec_mentions (specs_in (map annotation_of x.annotations.items))) (statement_mentions (statement_of x.body.value)) (found_left {A = Mention} test (part_mentions (option_map simple_of x.first) ++ mentions (expression_of x.condition) ++ part_mentions (option_map simple_of x.third)) (spec_mentions (specs_in (map annotation_of x.annotations.items))) c.in_err-check_for_parts-in-For.ensures.answers) ∙ ap (λ z. not (list_any test z)) (sym shape)

pub check_statement-returns-in_err-check_for_parts-in-For-clause-cause : goal.check_statement-returns-in_err-check_for_parts-in-For-clause-cause
check_statement-returns-in_err-check_for_parts-in-For-clause-cause t c =
    let test = refused_by c.args.self.now in
    let told = told_of c.args.self.now in
    let x = c.in-For in
    let fault : Fault = c.in_err-check_for_parts-in-For.field-0.0 in
    let p = err_from_is_err_and c.from_residual-in_err-check_for_parts-in-For.result c.from_residual-in_err-check_for_parts-in-For.ensures.1 in
    let there = c.in_err-check_for_parts-in-For.ensures.cause in
    at_err c.from_residual-in_err-check_for_parts-in-For.result p.0 fault (λ f. NamedInStatement test told f c.args.statement.now.kind) p.1 p.2 (subst (NamedInStatement test told fault) (sym x.is) (before_two there))

pub check_statement-returns-in_err-check_annotations-in-For-clause-answers : goal.check_statement-returns-in_err-check_annotations-in-For-clause-answers
check_statement-returns-in_err-check_annotations-in-For-clause-answers t c =
    let test = refused_by c.args.self.now in
    let x = c.in-For in
    let shape = ap (λ k. statement_mentions (statement_of_kind k)) x.is in
    let p = err_from_is_err_and c.from_residual-in_err-check_annotations-in-For.result c.from_residual-in_err-check_annotations-in-For.ensures.1 in
    ap is_ok p.1 ∙ found_left {A = Mention} test ((part_mentions (option_map simple_of x.first) ++ mentions (expression_of x.condition) ++ part_mentions (option_map simple_of x.third)) ++ spec_mentions (specs_in (map annotation_of x.annotations.items))) (statement_mentions (statement_of x.body.value)) (found_right {A = Mention} test (part_mentions (option_map simple_of x.first) ++ mentions (expression_of x.condition) ++ part_mentions (option_map simple_of x.third)) (spec_mentions (specs_in (map annotation_of x.annotations.items))) (rw c.deref-in-For.ensures.value at c.in_err-check_annotations-in-For.ensures.answers)) ∙ ap (λ z. not (list_any test z)) (sym shape)

pub check_statement-returns-in_err-check_annotations-in-For-clause-cause : goal.check_statement-returns-in_err-check_annotations-in-For-clause-cause
check_statement-returns-in_err-check_annotations-in-For-clause-cause t c =
    let test = refused_by c.args.self.now in
    let told = told_of c.args.self.now in
    let x = c.in-For in
    let fault : Fault = c.in_err-check_annotations-in-For.field-0.0 in
    let p = err_from_is_err_and c.from_residual-in_err-check_annotations-in-For.result c.from_residual-in_err-check_annotations-in-For.ensures.1 in
    let there = (rw c.deref-in-For.ensures.value at c.in_err-check_annotations-in-For.ensures.cause) in
    at_err c.from_residual-in_err-check_annotations-in-For.result p.0 fault (λ f. NamedInStatement test told f c.args.statement.now.kind) p.1 p.2 (subst (NamedInStatement test told fault) (sym x.is) (inr (inr (inr (inl there)))))

pub check_statement-returns-in_ok-check_annotations-in-For-clause-answers : goal.check_statement-returns-in_ok-check_annotations-in-For-clause-answers
check_statement-returns-in_ok-check_annotations-in-For-clause-answers t c =
    let test = refused_by c.args.self.now in
    let x = c.in-For in
    let shape = ap (λ k. statement_mentions (statement_of_kind k)) x.is in
    none_of_three {A = Mention} test (part_mentions (option_map simple_of x.first) ++ mentions (expression_of x.condition) ++ part_mentions (option_map simple_of x.third)) (spec_mentions (specs_in (map annotation_of x.annotations.items))) (statement_mentions (statement_of x.body.value)) _ c.in_ok-check_for_parts-in-For.ensures.answers (rw c.deref-in-For.ensures.value at c.in_ok-check_annotations-in-For.ensures.answers) (rw c.deref-in-For-2.ensures at c.check_statement-in-For.ensures.answers) ∙ ap (λ z. not (list_any test z)) (sym shape)

pub check_statement-returns-in_ok-check_annotations-in-For-clause-cause : goal.check_statement-returns-in_ok-check_annotations-in-For-clause-cause
check_statement-returns-in_ok-check_annotations-in-For-clause-cause t c =
    let test = refused_by c.args.self.now in
    let told = told_of c.args.self.now in
    let x = c.in-For in
    let there = rw c.deref-in-For-2.ensures at c.check_statement-in-For.ensures.cause in
    IfErr-weaker c.check_statement-in-For.result _ _ (λ f h. subst (NamedInStatement test told f) (sym x.is) (inr (inr (inr (inr h))))) there
