use Rattle.std.proofs.Common.{◌≡◌, ◌⊎◌, map, option_map, ap, ◌∙◌, sym, subst, refl, inl}
use Rattle.std.proofs.lemmas.Result.{IfErr-weaker, err_from_is_err_and}
use Rattle.c0_source.specs.declared.fault.Fault.{Fault}
use Rattle.c0_source.specs.declared.fault.FaultKind.TheVariants.{OutOfMemory}
use Rattle.c0_syntax.specs.declared.statement.StatementKind.{StatementKind}
use Rattle.c0_syntax.specs.Views.{annotation_of, expression_of, simple_of, statement_of, statement_of_kind, statements_of}
use Rattle.c0_rules.specs.Answers.{Answers}
use Rattle.c0_rules.specs.Assignment as a
use Rattle.c0_rules.specs.FaultPaths.{ReadIn, ReadInAnnotations, ReadInBody, ReadInStatement}
use Rattle.c0_rules.specs.Mentions.{specs_in}
use Rattle.c0_types_flow.specs.FlowViews.{behind_of, flow_of}
use Rattle.c0_types_flow.proofs.Flows.{start_refused, for_body_refused, for_leads, start_cause, inside_cause, block_leads, block_refused, if_leads, if_else_leads, third_cause}
use Rattle.c0_types_flow.proofs.Rows.{block_is, block_cause, body_cause}
use Rattle.c0_types_flow.proofs.flow.statements.+flow.Goals as goal

pub behind_statement-returns-in_err-inner-in-Block-clause-answers : goal.behind_statement-returns-in_err-inner-in-Block-clause-answers
behind_statement-returns-in_err-inner-in-Block-clause-answers t c =
    let shape = ap statement_of_kind c.in-Block.is ∙ block_is c.in-Block.statements in
    let p = err_from_is_err_and c.from_residual.result c.from_residual.ensures.1 in
    let refused = rw c.deref.ensures.value at c.in_err-inner-in-Block.ensures.answers in
    rw (p.1, p.2, shape) (block_refused (statements_of c.in-Block.statements.items) (flow_of c.args.flow.now) refused)

pub behind_statement-returns-in_err-inner-in-Block-clause-cause : goal.behind_statement-returns-in_err-inner-in-Block-clause-cause
behind_statement-returns-in_err-inner-in-Block-clause-cause t c =
    let fault : Fault = c.in_err-inner-in-Block.field-0.0 in
    let p = err_from_is_err_and c.from_residual.result c.from_residual.ensures.1 in
    let there = rw c.deref.ensures.value at c.in_err-inner-in-Block.ensures.cause in
    let P : StatementKind → Type 0 = λ k. (fault.kind ≡ OutOfMemory) ⊎ ReadInStatement fault (flow_of c.args.flow.now) k in
    rw (p.1, p.2) (subst P (sym c.in-Block.is) (block_cause fault (flow_of c.args.flow.now) c.in-Block.statements there))

pub behind_statement-returns-in_ok-inner-in-Block-clause-answers : goal.behind_statement-returns-in_ok-inner-in-Block-clause-answers
behind_statement-returns-in_ok-inner-in-Block-clause-answers t c =
    let before = flow_of c.args.flow.now in
    let shape = ap statement_of_kind c.in-Block.is ∙ block_is c.in-Block.statements in
    let led = rw c.deref.ensures.value at c.in_ok-inner-in-Block.ensures.answers in
    rw shape (subst (Answers (behind_of before) c.leave_scope.result) (sym (block_leads (statements_of c.in-Block.statements.items) before _ _ led refl)) c.leave_scope.ensures.answers)

pub behind_statement-returns-in_ok-inner-in-Block-clause-cause : goal.behind_statement-returns-in_ok-inner-in-Block-clause-cause
behind_statement-returns-in_ok-inner-in-Block-clause-cause t c =
    IfErr-weaker c.leave_scope.result _ _ (λ f h. inl h) c.leave_scope.ensures.cause

pub behind_statement-returns-in_ok-behind_second-in-IfElse-clause-answers : goal.behind_statement-returns-in_ok-behind_second-in-IfElse-clause-answers
behind_statement-returns-in_ok-behind_second-in-IfElse-clause-answers t c =
    let x = c.in-IfElse in
    let before = flow_of c.args.flow.now in
    let shape = ap statement_of_kind x.is in
    let first = rw c.deref-in-IfElse.ensures at c.in_ok-behind_first-in-IfElse.ensures.answers in
    let second = rw c.deref-in-IfElse-2.ensures at c.in_ok-behind_second-in-IfElse.ensures.answers in
    rw shape (subst (Answers (behind_of before) c.join_ways.result)
    (sym (if_else_leads (expression_of x.condition) (statement_of x.first.value) (statement_of x.second.value) before _ _ c.in_ok-check_reads-in-IfElse.ensures.answers first second)) c.join_ways.ensures.answers)

pub behind_statement-returns-in_ok-behind_second-in-IfElse-clause-cause : goal.behind_statement-returns-in_ok-behind_second-in-IfElse-clause-cause
behind_statement-returns-in_ok-behind_second-in-IfElse-clause-cause t c =
    IfErr-weaker c.join_ways.result _ _ (λ f h. inl h) c.join_ways.ensures.cause

pub behind_statement-returns-in_err-behind_second-in-IfElse-clause-cause : goal.behind_statement-returns-in_err-behind_second-in-IfElse-clause-cause
behind_statement-returns-in_err-behind_second-in-IfElse-clause-cause t c =
    let fault : Fault = c.in_err-behind_second-in-IfElse.field-0.0 in
    let before = flow_of c.args.flow.now in
    let p = err_from_is_err_and c.from_residual-in_err-behind_second-in-IfElse.result c.from_residual-in_err-behind_second-in-IfElse.ensures.1 in
    let P : StatementKind → Type 0 = λ k. (fault.kind ≡ OutOfMemory) ⊎ ReadInStatement fault before k in
    let there = rw c.deref-in-IfElse-2.ensures at c.in_err-behind_second-in-IfElse.ensures.cause in
    rw (p.1, p.2) (subst P (sym c.in-IfElse.is) (third_cause (ReadIn fault before c.in-IfElse.condition) (ReadInStatement fault before c.in-IfElse.first.value.kind) there))

pub behind_statement-returns-in_err-behind_statement-in-While-clause-cause : goal.behind_statement-returns-in_err-behind_statement-in-While-clause-cause
behind_statement-returns-in_err-behind_statement-in-While-clause-cause t c =
    let fault : Fault = c.in_err-behind_statement-in-While.field-0.0 in
    let before = flow_of c.args.flow.now in
    let p = err_from_is_err_and c.from_residual-in_err-behind_statement-in-While.result c.from_residual-in_err-behind_statement-in-While.ensures.1 in
    let P : StatementKind → Type 0 = λ k. (fault.kind ≡ OutOfMemory) ⊎ ReadInStatement fault before k in
    let there = rw c.deref-in-While-2.ensures at c.in_err-behind_statement-in-While.ensures.cause in
    rw (p.1, p.2) (subst P (sym c.in-While.is) (third_cause (ReadIn fault before c.in-While.condition) (ReadInAnnotations fault before c.in-While.annotations.items) there))

pub behind_statement-returns-in_ok-behind_statement-in-If-clause-answers : goal.behind_statement-returns-in_ok-behind_statement-in-If-clause-answers
behind_statement-returns-in_ok-behind_statement-in-If-clause-answers t c =
    let shape = ap statement_of_kind c.in-If.is in
    let led = rw c.deref-in-If.ensures at c.in_ok-behind_statement-in-If.ensures.answers in
    rw shape (if_leads (expression_of c.in-If.condition) (statement_of c.in-If.body.value) (flow_of c.args.flow.now) _ c.in_ok-check_reads-in-If.ensures.answers led)

pub behind_statements-returns-in_err-next-clause-cause : goal.behind_statements-returns-in_err-next-clause-cause
behind_statements-returns-in_err-next-clause-cause t c =
    let fault : Fault = c.in_err-next.field-0.0 in
    let p = err_from_is_err_and c.from_residual.result c.from_residual.ensures.1 in
    let there = subst (λ z. (fault.kind ≡ OutOfMemory) ⊎ ReadInStatement fault z c.statement-item.result.kind) c.over.ensures c.in_err-next.ensures.cause in
    rw (p.1, p.2) (body_cause fault (ReadInBody fault (flow_of c.args.flow.now) c.args.body.now) (behind_of (flow_of c.args.flow.now) c.loop-statement.behind) c.args.body.now c.loop-statement.statement-index c.statement-item.result c.loop-statement-test.true c.statement-item.is (c.loop-statement.invariant.cause fault) there)

pub behind_statement-returns-in_err-start-in-For-clause-answers : goal.behind_statement-returns-in_err-start-in-For-clause-answers
behind_statement-returns-in_err-start-in-For-clause-answers t c =
    let x = c.in-For in
    let shape = ap statement_of_kind x.is in
    let p = err_from_is_err_and c.from_residual-in_err-start-in-For.result c.from_residual-in_err-start-in-For.ensures.1 in
    let refused = rw (c.deref-in-For.ensures.value, c.deref-in-For-2.ensures) at c.in_err-start-in-For.ensures.answers in
    rw (p.1, p.2, shape) (start_refused (option_map simple_of x.first) (expression_of x.condition) (option_map simple_of x.third) (map annotation_of x.annotations.items) (statement_of x.body.value) (flow_of c.args.flow.now) refused)

pub behind_statement-returns-in_err-start-in-For-clause-cause : goal.behind_statement-returns-in_err-start-in-For-clause-cause
behind_statement-returns-in_err-start-in-For-clause-cause t c =
    let x = c.in-For in
    let fault : Fault = c.in_err-start-in-For.field-0.0 in
    let p = err_from_is_err_and c.from_residual-in_err-start-in-For.result c.from_residual-in_err-start-in-For.ensures.1 in
    let P : StatementKind → Type 0 = λ k. (fault.kind ≡ OutOfMemory) ⊎ ReadInStatement fault (flow_of c.args.flow.now) k in
    let there = rw (c.deref-in-For.ensures.value, c.deref-in-For-2.ensures) at c.in_err-start-in-For.ensures.cause in
    rw (p.1, p.2) (subst P (sym x.is) (start_cause fault x.first x.condition x.third x.annotations.items x.body.value.kind (flow_of c.args.flow.now) there))

pub behind_statement-returns-in_err-behind_statement-in-For-clause-answers : goal.behind_statement-returns-in_err-behind_statement-in-For-clause-answers
behind_statement-returns-in_err-behind_statement-in-For-clause-answers t c =
    let x = c.in-For in
    let shape = ap statement_of_kind x.is in
    let p = err_from_is_err_and c.from_residual-in_err-behind_statement-in-For.result c.from_residual-in_err-behind_statement-in-For.ensures.1 in
    let started = rw (c.deref-in-For.ensures.value, c.deref-in-For-2.ensures) at c.in_ok-start-in-For.ensures.answers in
    let refused = rw c.deref-in-For-3.ensures at c.in_err-behind_statement-in-For.ensures.answers in
    rw (p.1, p.2, shape) (for_body_refused (option_map simple_of x.first) (expression_of x.condition) (option_map simple_of x.third) (map annotation_of x.annotations.items) (statement_of x.body.value) (flow_of c.args.flow.now) _ started _ c.over-inner.ensures refused)

pub behind_statement-returns-in_err-behind_statement-in-For-clause-cause : goal.behind_statement-returns-in_err-behind_statement-in-For-clause-cause
behind_statement-returns-in_err-behind_statement-in-For-clause-cause t c =
    let x = c.in-For in
    let fault : Fault = c.in_err-behind_statement-in-For.field-0.0 in
    let p = err_from_is_err_and c.from_residual-in_err-behind_statement-in-For.result c.from_residual-in_err-behind_statement-in-For.ensures.1 in
    let P : StatementKind → Type 0 = λ k. (fault.kind ≡ OutOfMemory) ⊎ ReadInStatement fault (flow_of c.args.flow.now) k in
    let started = rw (c.deref-in-For.ensures.value, c.deref-in-For-2.ensures) at c.in_ok-start-in-For.ensures.answers in
    let there = rw c.deref-in-For-3.ensures at c.in_err-behind_statement-in-For.ensures.cause in
    rw (p.1, p.2) (subst P (sym x.is) (inside_cause fault x.first x.condition x.third x.annotations.items x.body.value.kind (flow_of c.args.flow.now) _ started _ c.over-inner.ensures there))

pub behind_statement-returns-in_ok-behind_statement-in-For-clause-answers : goal.behind_statement-returns-in_ok-behind_statement-in-For-clause-answers
behind_statement-returns-in_ok-behind_statement-in-For-clause-answers t c =
    let x = c.in-For in
    let before = flow_of c.args.flow.now in
    let shape = ap statement_of_kind x.is in
    let started = rw (c.deref-in-For.ensures.value, c.deref-in-For-2.ensures) at c.in_ok-start-in-For.ensures.answers in
    let led = rw c.deref-in-For-3.ensures at c.in_ok-behind_statement-in-For.ensures.answers in
    let leads = for_leads (option_map simple_of x.first) (expression_of x.condition) (option_map simple_of x.third) (map annotation_of x.annotations.items) (statement_of x.body.value) before _ started
    _ _ c.over-inner.ensures led _ refl in
    rw shape (subst (Answers (behind_of before) c.leave_scope-in-For.result) (sym leads) c.leave_scope-in-For.ensures.answers)

pub behind_statement-returns-in_ok-behind_statement-in-For-clause-cause : goal.behind_statement-returns-in_ok-behind_statement-in-For-clause-cause
behind_statement-returns-in_ok-behind_statement-in-For-clause-cause t c =
    IfErr-weaker c.leave_scope-in-For.result _ _ (λ f h. inl h) c.leave_scope-in-For.ensures.cause
