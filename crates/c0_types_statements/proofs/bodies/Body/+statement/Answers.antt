use Rattle.std.proofs.Common.{◌≡◌, ◌+◌, length, map, drop, arith, ap, ◌∙◌, sym, subst, refl, Some, None, inl, inr, IfErr}
use Rattle.std.specs.Prelude.{◌⊎◌, option_map}
use Rattle.std.proofs.lemmas.List.{length-map}
use Rattle.std.proofs.lemmas.Result.{IfErr-weaker, err_from_is_err_and}
use Rattle.c0_source.specs.declared.fault.Fault.{Fault}
use Rattle.c0_source.specs.declared.fault.FaultKind.TheVariants.{OutOfMemory}
use Rattle.c0_syntax.specs.declared.statement.Statement.{Statement}
use Rattle.c0_syntax.specs.Trees as tree
use Rattle.c0_syntax.specs.Views.{annotation_of, expression_of, simple_of, statement_of, statement_of_kind, statements_of}
use Rattle.c0_typed.specs.Trees as y
use Rattle.c0_typed.specs.Views.{block_of, exp_of, exps_of, stmt_of}
use Rattle.c0_types_terms.specs.Terms.{HasTexts, local_of}
use Rattle.c0_rules.specs.FaultStatements.{InAnnotations, InBody, InStatement, InWanted, ThirdCause}
use Rattle.c0_rules.specs.Mentions.{specs_in}
use Rattle.c0_rules.specs.Statements.{in_body, Checked, Invariant, typed_statement, typed_statements, within}
use Rattle.c0_rules.specs.Types.{BoolType}
use Rattle.c0_types_tables.specs.Views.{environment_of}
use Rattle.c0_types_bodies.specs.Bodies.{Gives, InFor, InLoop, PartHasTexts, SpecsHaveTexts, StatementHasTexts, StatementsHaveTexts, head_of, in_scope, turn_in_scope, loop_behind, scope_of}
use Rattle.c0_types_bodies.proofs.BodyRows.{block_is, block_told, typed_block_is}
use Rattle.c0_types_bodies.proofs.InnerStatements.{after_all, after_none, block_gives, body_cause, body_has, body_step, else_none, if_else_gives, if_else_none, if_gives, if_none, nested_gives, turn_gives, scope_cause, statement_more, statement_none, statements_done, third_of, while_none}
use Rattle.c0_types_bodies.proofs.Kept.{at_start, block_none, body_told, first_alone, first_two, head_told, in_texts, loop_told, scope_none, turn_none, second_of, third_alone}
use Rattle.c0_types_bodies.proofs.LoopParts.{first_none, for_gives, for_none, head_none, loop_gives, loop_none, while_behind, while_headless}
use Rattle.c0_types_bodies.proofs.Made.{made_gives, made_told}
use Rattle.c0_types_bodies.proofs.Sizes.{size_in, size_statement}
use Rattle.c0_types_statements.proofs.bodies.Body.+statement.Goals as goal

-- ---- statements in order

pub statements-statement-requires : goal.statements-statement-requires
statements-statement-requires t c =
    let l = c.loop-statement in
    let x : Statement = c.statement-item.result in
    let has = body_has (environment_of c.args.self.now.environment.now) c.args.self.now.texts.now c.args.statements.now l.statement-index x c.loop-statement-test.true c.statement-item.is c.requires in
    (omega (arith, size_in c.args.statements.now l.statement-index x c.loop-statement-test.true c.statement-item.is, c.decreases), in_texts (λ w. StatementHasTexts w (statement_of x)) l.invariant.texts has)

pub statements-loop-statement-init : goal.statements-loop-statement-init
statements-loop-statement-init t c =
    let env = environment_of c.args.self.now.environment.now in
    let texts = c.args.self.now.texts.now in
    let answer = ap (λ l. after_all texts l (typed_statements env (statements_of c.args.statements.now) (scope_of c.args.self.now.scope))) c.new-all.ensures.items ∙ after_none texts (typed_statements env (statements_of c.args.statements.now) (scope_of c.args.self.now.scope)) in
    record { environment = λ i. c.args.self.now.environment; texts = λ i. c.args.self.now.texts; answer = answer; cause = λ f h. h }

pub statements-returns-in_err-found-clause-answers : goal.statements-returns-in_err-found-clause-answers
statements-returns-in_err-found-clause-answers t c =
    let l = c.loop-statement in
    let env = environment_of c.args.self.now.environment.now in
    let texts = c.args.self.now.texts.now in
    let x : Statement = c.statement-item.result in
    let p = err_from_is_err_and c.from_residual.result c.from_residual.ensures.1 in
    let none = at_start (λ e w. (c.in_err-found.field-0.0.kind ≡ OutOfMemory) ⊎ (typed_statement e (statement_of x) (scope_of l.self.scope) ≡ None)) l.invariant.environment l.invariant.texts c.in_err-found.ensures.answers in
    rw (p.1, p.2) (statement_none env texts l.all.items c.args.statements.now l.statement-index x c.loop-statement-test.true c.statement-item.is (scope_of l.self.scope) _ none l.invariant.answer)

pub statements-returns-in_err-found-clause-cause : goal.statements-returns-in_err-found-clause-cause
statements-returns-in_err-found-clause-cause t c =
    let l = c.loop-statement in
    let env = environment_of c.args.self.now.environment.now in
    let x : Statement = c.statement-item.result in
    let fault : Fault = c.in_err-found.field-0.0 in
    let p = err_from_is_err_and c.from_residual.result c.from_residual.ensures.1 in
    let there = at_start (λ e w. (fault.kind ≡ OutOfMemory) ⊎ InStatement e fault (scope_of l.self.scope) x.kind x.span) l.invariant.environment l.invariant.texts c.in_err-found.ensures.cause in
    rw (p.1, p.2) (body_cause env fault (scope_of l.self.scope) c.args.statements.now l.statement-index x c.loop-statement-test.true c.statement-item.is (l.invariant.cause fault) there)

pub statements-loop-statement-preserved : goal.statements-loop-statement-preserved
statements-loop-statement-preserved t c =
    let l = c.loop-statement in
    let env = environment_of c.args.self.now.environment.now in
    let texts = c.args.self.now.texts.now in
    let x : Statement = c.statement-item.result in
    let behind = scope_of c.statement.new.self.scope in
    let given = at_start (λ e w. typed_statement e (statement_of x) (scope_of l.self.scope) ≡ Some (record { statement = stmt_of w c.in_ok-found.found; scope = behind })) l.invariant.environment l.invariant.texts c.in_ok-found.ensures.answers in
    let rest = typed_statements env (statements_of (drop (l.statement-index + 1) c.args.statements.now)) behind in
    record {
      environment = c.statement.ensures.environment ∙ l.invariant.environment;
      texts = c.statement.ensures.texts ∙ l.invariant.texts;
      answer = ap (λ v. after_all texts v rest) c.in_ok-push.ensures.items ∙ statement_more env texts l.all.items c.in_ok-found.found c.args.statements.now l.statement-index x c.loop-statement-test.true c.statement-item.is (scope_of l.self.scope) behind _ given l.invariant.answer;
      cause = λ f there. body_step env f (scope_of l.self.scope) c.args.statements.now l.statement-index x c.loop-statement-test.true c.statement-item.is (record { statement = stmt_of texts c.in_ok-found.found; scope = behind }) given (l.invariant.cause f) there;
    }

pub statements-returns-clause-answers : goal.statements-returns-clause-answers
statements-returns-clause-answers t c =
    let l = c.loop-statement in
    statements_done (environment_of c.args.self.now.environment.now) c.args.self.now.texts.now l.all.items c.args.statements.now l.statement-index c.loop-statement-test.false (scope_of l.self.scope) _ l.invariant.answer

-- ---- a block

pub block-statements-requires : goal.block-statements-requires
block-statements-requires t c = (omega (arith, c.decreases), c.requires)

pub block-returns-in_err-all-clause-answers : goal.block-returns-in_err-all-clause-answers
block-returns-in_err-all-clause-answers t c =
    let p = err_from_is_err_and c.from_residual.result c.from_residual.ensures.1 in
    rw (p.1, p.2) (block_none (environment_of c.args.self.now.environment.now) (statements_of c.args.statements.now) (scope_of c.args.self.now.scope) c.in_err-all.ensures.answers)

pub block-returns-clause-answers : goal.block-returns-clause-answers
block-returns-clause-answers t c =
    let env = environment_of c.args.self.now.environment.now in
    let texts = c.args.self.now.texts.now in
    let locals = c.args.self.now.scope.locals in
    let size : c.len-outer.result ≡ length (map local_of locals.items) = omega (arith, c.len-outer.ensures, locals.ok.0, length-map locals.items local_of) in
    let behind = scope_of c.leave.new.self in
    block_gives env (statements_of c.args.statements.now) (scope_of c.args.self.now.scope) (record { statement = block_of texts c.in_ok-all.all.items; scope = scope_of c.statements.new.self.scope }) c.len-outer.result behind size c.in_ok-all.ensures.answers c.leave.ensures
    ∙ ap (λ b. Some (record { statement = b; scope = behind })) (sym (typed_block_is texts c.in_ok-all.all))

-- ---- a block as a statement

pub statement-block-requires : goal.statement-block-requires
statement-block-requires t c =
    let texts = c.args.self.now.texts.now in
    let shape = ap statement_of_kind c.in-Block.is ∙ block_is c.in-Block.statements in
    let has : StatementsHaveTexts texts (statements_of c.in-Block.statements.items) = subst (StatementHasTexts texts) shape c.requires in
    let whole = shape ∙ ap (λ l. tree.Block (statements_of l)) (sym c.deref.ensures.value) in
    (omega (arith, ap size_statement whole, c.decreases), subst (λ l. StatementsHaveTexts texts (statements_of l)) (sym c.deref.ensures.value) has)

pub statement-returns-in-Block-clause-answers : goal.statement-returns-in-Block-clause-answers
statement-returns-in-Block-clause-answers t c =
    let shape = ap statement_of_kind c.in-Block.is ∙ block_is c.in-Block.statements in
    rw shape (rw c.deref.ensures.value at c.block.ensures.answers)

pub statement-returns-in-Block-clause-cause : goal.statement-returns-in-Block-clause-cause
statement-returns-in-Block-clause-cause t c =
    let env = environment_of c.args.self.now.environment.now in
    let at = scope_of c.args.self.now.scope in
    IfErr-weaker c.block.result _ _ (λ f h. subst (λ k. (f.kind ≡ OutOfMemory) ⊎ InStatement env f at k c.args.span) (sym c.in-Block.is) (block_told env f at c.in-Block.statements c.args.span (subst (λ l. (f.kind ≡ OutOfMemory) ⊎ InBody env f at l) c.deref.ensures.value h))) c.block.ensures.cause

-- ---- a statement in a scope of its own

pub inner-returns-in_err-found-clause-answers : goal.inner-returns-in_err-found-clause-answers
inner-returns-in_err-found-clause-answers t c =
    let p = err_from_is_err_and c.from_residual.result c.from_residual.ensures.1 in
    rw (p.1, p.2) (scope_none (environment_of c.args.self.now.environment.now) (statement_of c.args.body.now) (scope_of c.args.self.now.scope) c.in_err-found.ensures.answers)

pub inner-returns-clause-answers : goal.inner-returns-clause-answers
inner-returns-clause-answers t c =
    let locals = c.args.self.now.scope.locals in
    let size : c.len-count.result ≡ length (map local_of locals.items) = omega (arith, c.len-count.ensures, locals.ok.0, length-map locals.items local_of) in
    nested_gives (environment_of c.args.self.now.environment.now) (statement_of c.args.body.now) (scope_of c.args.self.now.scope) (record { statement = stmt_of c.args.self.now.texts.now c.in_ok-found.found; scope = scope_of c.statement.new.self.scope }) c.len-count.result (scope_of c.leave.new.self) size c.in_ok-found.ensures.answers c.leave.ensures

-- ---- the body of a loop

pub turn-statement-requires : goal.turn-statement-requires
turn-statement-requires t c = (omega (arith, c.decreases), c.requires)

pub turn-returns-in_err-found-clause-answers : goal.turn-returns-in_err-found-clause-answers
turn-returns-in_err-found-clause-answers t c =
    let p = err_from_is_err_and c.from_residual.result c.from_residual.ensures.1 in
    rw (p.1, p.2) (turn_none (environment_of c.args.self.now.environment.now) (statement_of c.args.body.now) (scope_of c.args.self.now.scope) c.in_err-found.ensures.answers)

pub turn-returns-clause-answers : goal.turn-returns-clause-answers
turn-returns-clause-answers t c =
    let locals = c.args.self.now.scope.locals in
    let size : c.len-count.result ≡ length (map local_of locals.items) = omega (arith, c.len-count.ensures, locals.ok.0, length-map locals.items local_of) in
    turn_gives (environment_of c.args.self.now.environment.now) (statement_of c.args.body.now) (scope_of c.args.self.now.scope) (record { statement = stmt_of c.args.self.now.texts.now c.in_ok-found.found; scope = scope_of c.statement.new.self.scope }) c.len-count.result (scope_of c.leave.new.self) size c.in_ok-found.ensures.answers c.leave.ensures

-- ---- an `if`

pub choice_of-returns-in-Err-clause-answers : goal.choice_of-returns-in-Err-clause-answers
choice_of-returns-in-Err-clause-answers t c =
    if_none (environment_of c.args.self.now.environment.now) (expression_of c.args.condition.now) (statement_of c.args.body.now) (scope_of c.args.self.now.scope) c.in-Err.ensures.answers

pub choice_of-returns-in-Err-clause-cause : goal.choice_of-returns-in-Err-clause-cause
choice_of-returns-in-Err-clause-cause t c =
    second_of c.in-Err.ensures.cause (λ h. h)

pub choice_of-returns-in_ok-choice-in-Ok-clause-answers : goal.choice_of-returns-in_ok-choice-in-Ok-clause-answers
choice_of-returns-in_ok-choice-in-Ok-clause-answers t c =
    let texts = c.args.self.now.texts.now in
    let z = exp_of texts c.in_ok-condition.condition in
    let x = stmt_of texts c.in-Ok.first in
    if_gives (environment_of c.args.self.now.environment.now) (expression_of c.args.condition.now) (statement_of c.args.body.now) (scope_of c.args.self.now.scope) z (record { statement = x; scope = scope_of c.inner.new.self.scope }) _ c.in_ok-condition.ensures.answers c.in-Ok.ensures.answers (c.in_ok-choice-in-Ok.ensures texts ∙ ap (y.If z x) (c.skip.ensures texts))

pub inner-statement-requires : goal.inner-statement-requires
inner-statement-requires t c = (omega (arith, c.decreases), c.requires)

pub choice_of-inner-requires : goal.choice_of-inner-requires
choice_of-inner-requires t c = (omega (arith, c.decreases), c.requires.1)

pub statement-choice_of-requires : goal.statement-choice_of-requires
statement-choice_of-requires t c =
    let whole = ap statement_of_kind c.in-If.is ∙ ap (λ b. tree.If (expression_of c.in-If.condition) (statement_of b)) (sym c.deref-in-If.ensures) in
    (omega (arith, ap size_statement whole, c.decreases), subst (StatementHasTexts c.args.self.now.texts.now) whole c.requires)

pub statement-returns-in-If-clause-answers : goal.statement-returns-in-If-clause-answers
statement-returns-in-If-clause-answers t c =
    let shape = ap statement_of_kind c.in-If.is in
    rw shape (rw c.deref-in-If.ensures at c.choice_of.ensures.answers)

pub statement-returns-in-If-clause-cause : goal.statement-returns-in-If-clause-cause
statement-returns-in-If-clause-cause t c =
    let env = environment_of c.args.self.now.environment.now in
    let at = scope_of c.args.self.now.scope in
    IfErr-weaker c.choice_of.result _ _ (λ f h. subst (λ k. (f.kind ≡ OutOfMemory) ⊎ InStatement env f at k c.args.span) (sym c.in-If.is) (subst (λ b. (f.kind ≡ OutOfMemory) ⊎ InWanted env f at BoolType c.in-If.condition ⊎ InStatement env f at b.kind b.span) c.deref-in-If.ensures h)) c.choice_of.ensures.cause

-- ---- a `while`

pub while_loop-returns-in_err-head-clause-answers : goal.while_loop-returns-in_err-head-clause-answers
while_loop-returns-in_err-head-clause-answers t c =
    let p = err_from_is_err_and c.from_residual.result c.from_residual.ensures.1 in
    rw (p.1, p.2) (while_headless (environment_of c.args.self.now.environment.now) (expression_of c.args.condition.now) (map annotation_of c.args.annotations.now) (statement_of c.args.body.now) (scope_of c.args.self.now.scope) c.in_err-head.ensures.answers)

pub while_loop-returns-in_err-head-clause-cause : goal.while_loop-returns-in_err-head-clause-cause
while_loop-returns-in_err-head-clause-cause t c =
    let p = err_from_is_err_and c.from_residual.result c.from_residual.ensures.1 in
    rw (p.1, p.2) (first_two c.in_err-head.ensures.cause)

pub while_loop-turn-inside-requires : goal.while_loop-turn-inside-requires
while_loop-turn-inside-requires t c = (omega (arith, c.decreases), c.requires.2)

pub while_loop-returns-clause-answers : goal.while_loop-returns-clause-answers
while_loop-returns-clause-answers t c =
    let env = environment_of c.args.self.now.environment.now in
    let texts = c.args.self.now.texts.now in
    let at = scope_of c.args.self.now.scope in
    let behind = c.turn-inside.new.self.scope in
    let last = c.turn-inside.result in
    let condition = expression_of c.args.condition.now in
    let notes = map annotation_of c.args.annotations.now in
    let a = statement_of c.args.body.now in
    let head = c.in_ok-head.head in
    made_gives (λ w b. y.Loop (exps_of w head.invariants.items) (exp_of w head.condition) b (stmt_of w head.third)) texts behind behind last c.repeated.result (turn_in_scope env a at) (typed_statement env (tree.While condition notes a) at) c.repeated.ensures.answers c.repeated.ensures.cause c.turn-inside.ensures.answers
    (λ b h. sym (while_behind env condition notes a at) ∙ loop_gives env condition None notes a at (head_of texts head) (record { statement = b; scope = scope_of behind }) c.in_ok-head.ensures.answers h)
    (λ K h. while_none env condition notes a at h)

pub while_loop-returns-clause-cause : goal.while_loop-returns-clause-cause
while_loop-returns-clause-cause t c = made_told c.turn-inside.result c.repeated.result c.repeated.ensures.cause c.turn-inside.ensures.cause (λ f h. third_alone h)

pub statement-while_loop-requires : goal.statement-while_loop-requires
statement-while_loop-requires t c =
    let whole =
    ap statement_of_kind c.in-While.is
    ∙ ap (λ l. tree.While (expression_of c.in-While.condition) (map annotation_of l) (statement_of c.in-While.body.value)) (sym c.deref-in-While.ensures.value)
    ∙ ap (λ b. tree.While (expression_of c.in-While.condition) (map annotation_of c.deref-in-While.result.now) (statement_of b)) (sym c.deref-in-While-2.ensures) in
    (omega (arith, ap size_statement whole, c.decreases), subst (StatementHasTexts c.args.self.now.texts.now) whole c.requires)

pub statement-returns-in-While-clause-answers : goal.statement-returns-in-While-clause-answers
statement-returns-in-While-clause-answers t c =
    let shape = ap statement_of_kind c.in-While.is in
    rw shape (rw (c.deref-in-While.ensures.value, c.deref-in-While-2.ensures) at c.while_loop.ensures.answers)

pub statement-returns-in-While-clause-cause : goal.statement-returns-in-While-clause-cause
statement-returns-in-While-clause-cause t c =
    let env = environment_of c.args.self.now.environment.now in
    let at = scope_of c.args.self.now.scope in
    let notes = c.deref-in-While.result.now in
    IfErr-weaker c.while_loop.result _ _ (λ f h.
    subst (λ k. (f.kind ≡ OutOfMemory) ⊎ InStatement env f at k c.args.span) (sym c.in-While.is)
    (subst (λ l. (f.kind ≡ OutOfMemory) ⊎ InWanted env f at BoolType c.in-While.condition ⊎ InAnnotations env f Invariant (within at) l ⊎ InStatement env f (in_body at) c.in-While.body.value.kind c.in-While.body.value.span) c.deref-in-While.ensures.value
    (subst (λ b. (f.kind ≡ OutOfMemory) ⊎ InWanted env f at BoolType c.in-While.condition ⊎ InAnnotations env f Invariant (within at) notes ⊎ InStatement env f (in_body at) b.kind b.span) c.deref-in-While-2.ensures h))) c.while_loop.ensures.cause

-- ---- an `if` with `else`

pub choice_of_two-returns-in-Err-clause-answers : goal.choice_of_two-returns-in-Err-clause-answers
choice_of_two-returns-in-Err-clause-answers t c =
    if_else_none (environment_of c.args.self.now.environment.now) (expression_of c.args.condition.now) (statement_of c.args.body.now) (statement_of c.args.other.now) (scope_of c.args.self.now.scope) c.in-Err.ensures.answers

pub choice_of_two-returns-in-Err-clause-cause : goal.choice_of_two-returns-in-Err-clause-cause
choice_of_two-returns-in-Err-clause-cause t c =
    second_of c.in-Err.ensures.cause (λ h. inl h)

pub choice_of_two-returns-in-Ok-clause-answers : goal.choice_of_two-returns-in-Ok-clause-answers
choice_of_two-returns-in-Ok-clause-answers t c =
    let env = environment_of c.args.self.now.environment.now in
    let texts = c.args.self.now.texts.now in
    let at = scope_of c.args.self.now.scope in
    let behind = c.inner-second.new.self.scope in
    let last = c.inner-second.result in
    let condition = expression_of c.args.condition.now in
    let a = statement_of c.args.body.now in
    let b = statement_of c.args.other.now in
    let first : Checked = record { statement = stmt_of texts c.in-Ok.first; scope = scope_of c.inner.new.self.scope } in
    let given = at_start (λ e w. Gives w behind last (in_scope e b first.scope)) c.inner.ensures.environment c.inner.ensures.texts c.inner-second.ensures.answers in
    made_gives (λ w z. y.If (exp_of w c.in_ok-condition.condition) (stmt_of w c.in-Ok.first) z) texts behind behind last c.chosen.result (in_scope env b first.scope) (typed_statement env (tree.IfElse condition a b) at) c.chosen.ensures.answers c.chosen.ensures.cause given
    (λ z h. if_else_gives env condition a b at (exp_of texts c.in_ok-condition.condition) first (record { statement = z; scope = scope_of behind }) _ c.in_ok-condition.ensures.answers c.in-Ok.ensures.answers h refl)
    (λ K h. else_none env condition a b at first c.in-Ok.ensures.answers h)

pub choice_of_two-returns-in-Ok-clause-cause : goal.choice_of_two-returns-in-Ok-clause-cause
choice_of_two-returns-in-Ok-clause-cause t c =
    let env = environment_of c.args.self.now.environment.now in
    let at = scope_of c.args.self.now.scope in
    let last = c.inner-second.result in
    let other = c.args.other.now in
    let first : Checked = record { statement = stmt_of c.args.self.now.texts.now c.in-Ok.first; scope = scope_of c.inner.new.self.scope } in
    let there = at_start (λ e w. IfErr last (λ f. (f.kind ≡ OutOfMemory) ⊎ InStatement e f first.scope other.kind other.span)) c.inner.ensures.environment c.inner.ensures.texts c.inner-second.ensures.cause in
    made_told last c.chosen.result c.chosen.ensures.cause there (λ f h. third_of env h (scope_cause env (λ s. InStatement env f s other.kind other.span) (statement_of c.args.body.now) at first c.in-Ok.ensures.answers))

pub statement-choice_of_two-requires : goal.statement-choice_of_two-requires
statement-choice_of_two-requires t c =
    let condition = expression_of c.in-IfElse.condition in
    let whole =
    ap statement_of_kind c.in-IfElse.is
    ∙ ap (λ a. tree.IfElse condition (statement_of a) (statement_of c.in-IfElse.other.value)) (sym c.deref-in-IfElse.ensures)
    ∙ ap (λ b. tree.IfElse condition (statement_of c.deref-in-IfElse.result.now) (statement_of b)) (sym c.deref-in-IfElse-2.ensures) in
    (omega (arith, ap size_statement whole, c.decreases), subst (StatementHasTexts c.args.self.now.texts.now) whole c.requires)

-- ---- the loop of a `for`

pub loop_behind-returns-in_err-head-clause-answers : goal.loop_behind-returns-in_err-head-clause-answers
loop_behind-returns-in_err-head-clause-answers t c =
    let p = err_from_is_err_and c.from_residual.result c.from_residual.ensures.1 in
    rw (p.1, p.2) (head_none (environment_of c.args.self.now.environment.now) (expression_of c.args.condition.now) (option_map simple_of c.args.third.now) (map annotation_of c.args.annotations.now) (statement_of c.args.body.now) (scope_of c.args.self.now.scope) c.in_err-head.ensures.answers)

pub loop_behind-returns-in_err-head-clause-cause : goal.loop_behind-returns-in_err-head-clause-cause
loop_behind-returns-in_err-head-clause-cause t c =
    let p = err_from_is_err_and c.from_residual.result c.from_residual.ensures.1 in
    rw (p.1, p.2) (head_told c.in_err-head.ensures.cause)

pub loop_behind-turn-inside-requires : goal.loop_behind-turn-inside-requires
loop_behind-turn-inside-requires t c = (omega (arith, c.decreases), in_texts (λ w. StatementHasTexts w (statement_of c.args.body.now)) c.head.ensures.texts c.requires.3)

pub loop_behind-returns-clause-answers : goal.loop_behind-returns-clause-answers
loop_behind-returns-clause-answers t c =
    let env = environment_of c.args.self.now.environment.now in
    let texts = c.args.self.now.texts.now in
    let at = scope_of c.args.self.now.scope in
    let behind = c.turn-inside.new.self.scope in
    let last = c.turn-inside.result in
    let condition = expression_of c.args.condition.now in
    let third = option_map simple_of c.args.third.now in
    let notes = map annotation_of c.args.annotations.now in
    let a = statement_of c.args.body.now in
    let head = c.in_ok-head.head in
    let there = at_start (λ e w. Gives w behind last (turn_in_scope e a (scope_of c.head.new.self.scope))) c.head.ensures.environment c.head.ensures.texts c.turn-inside.ensures.answers in
    let given = subst (λ s. Gives texts behind last (turn_in_scope env a s)) c.in_ok-head.ensures.scope there in
    made_gives (λ w b. y.Loop (exps_of w head.invariants.items) (exp_of w head.condition) b (stmt_of w head.third)) texts behind behind last c.repeated.result (turn_in_scope env a at) (loop_behind env condition third notes a at) c.repeated.ensures.answers c.repeated.ensures.cause given
    (λ b h. loop_gives env condition third notes a at (head_of texts head) (record { statement = b; scope = scope_of behind }) c.in_ok-head.ensures.answers h)
    (λ K h. loop_none env condition third notes a at h)

pub loop_behind-returns-clause-cause : goal.loop_behind-returns-clause-cause
loop_behind-returns-clause-cause t c =
    let env = environment_of c.args.self.now.environment.now in
    let last = c.turn-inside.result in
    let body = c.args.body.now in
    let there = at_start (λ e w. IfErr last (λ f. (f.kind ≡ OutOfMemory) ⊎ InStatement e f (in_body (scope_of c.head.new.self.scope)) body.kind body.span)) c.head.ensures.environment c.head.ensures.texts c.turn-inside.ensures.cause in
    let told = subst (λ s. IfErr last (λ f. (f.kind ≡ OutOfMemory) ⊎ InStatement env f (in_body s) body.kind body.span)) c.in_ok-head.ensures.scope there in
    made_told last c.repeated.result c.repeated.ensures.cause told (λ f h. body_told h)

-- ---- a `for`

pub for_loop-loop_behind-repeats-requires : goal.for_loop-loop_behind-repeats-requires
for_loop-loop_behind-repeats-requires t c =
    let condition = expression_of c.args.condition.now in
    let third = option_map simple_of c.args.third.now in
    let specs = specs_in (map annotation_of c.args.annotations.now) in
    let a = statement_of c.args.body.now in
    (omega (arith, c.decreases), in_texts (λ w. HasTexts w condition × PartHasTexts w third × SpecsHaveTexts w specs × StatementHasTexts w a) c.part.ensures.texts (c.requires.1, c.requires.2, c.requires.3, c.requires.4))

pub for_loop-returns-in_err-first-clause-answers : goal.for_loop-returns-in_err-first-clause-answers
for_loop-returns-in_err-first-clause-answers t c =
    let p = err_from_is_err_and c.from_residual.result c.from_residual.ensures.1 in
    rw (p.1, p.2) (first_none (environment_of c.args.self.now.environment.now) (option_map simple_of c.args.first.now) (expression_of c.args.condition.now) (option_map simple_of c.args.third.now) (map annotation_of c.args.annotations.now) (statement_of c.args.body.now) (scope_of c.args.self.now.scope) c.in_err-first.ensures.answers)

pub for_loop-returns-in_err-first-clause-cause : goal.for_loop-returns-in_err-first-clause-cause
for_loop-returns-in_err-first-clause-cause t c =
    let p = err_from_is_err_and c.from_residual.result c.from_residual.ensures.1 in
    rw (p.1, p.2) (first_alone c.in_err-first.ensures.cause)

pub for_loop-returns-clause-answers : goal.for_loop-returns-clause-answers
for_loop-returns-clause-answers t c =
    let env = environment_of c.args.self.now.environment.now in
    let texts = c.args.self.now.texts.now in
    let at = scope_of c.args.self.now.scope in
    let inner = c.loop_behind-repeats.new.self.scope in
    let behind = c.leave.new.self in
    let last = c.loop_behind-repeats.result in
    let part = option_map simple_of c.args.first.now in
    let condition = expression_of c.args.condition.now in
    let third = option_map simple_of c.args.third.now in
    let notes = map annotation_of c.args.annotations.now in
    let a = statement_of c.args.body.now in
    let locals = c.args.self.now.scope.locals in
    let size : c.len-before.result ≡ length (map local_of locals.items) = omega (arith, c.len-before.ensures, locals.ok.0, length-map locals.items local_of) in
    let first : Checked = record { statement = stmt_of texts c.in_ok-first.first; scope = scope_of c.part.new.self.scope } in
    let given = at_start (λ e w. Gives w inner last (loop_behind e condition third notes a first.scope)) c.part.ensures.environment c.part.ensures.texts c.loop_behind-repeats.ensures.answers in
    made_gives (λ w b. y.Seq (stmt_of w c.in_ok-first.first) (y.Seq b y.Skip)) texts inner behind last c.followed.result (loop_behind env condition third notes a first.scope) (typed_statement env (tree.For part condition third notes a) at) c.followed.ensures.answers c.followed.ensures.cause given
    (λ b h. for_gives env part condition third notes a at first (record { statement = b; scope = scope_of inner }) c.in_ok-first.ensures.answers h c.len-before.result (scope_of behind) size c.leave.ensures)
    (λ K h. for_none env part condition third notes a at first c.in_ok-first.ensures.answers h)

pub for_loop-returns-clause-cause : goal.for_loop-returns-clause-cause
for_loop-returns-clause-cause t c =
    let env = environment_of c.args.self.now.environment.now in
    let last = c.loop_behind-repeats.result in
    let first : Checked = record { statement = stmt_of c.args.self.now.texts.now c.in_ok-first.first; scope = scope_of c.part.new.self.scope } in
    let there = at_start (λ e w. IfErr last (λ f. (f.kind ≡ OutOfMemory) ⊎ ThirdCause e f c.args.third.now ⊎ InLoop e f first.scope c.args.condition.now c.args.third.now c.args.annotations.now c.args.body.now)) c.part.ensures.environment c.part.ensures.texts c.loop_behind-repeats.ensures.cause in
    made_told last c.followed.result c.followed.ensures.cause there (λ f h. loop_told h (λ k. (first, c.in_ok-first.ensures.answers, k)))

pub statement-for_loop-requires : goal.statement-for_loop-requires
statement-for_loop-requires t c =
    let first = option_map simple_of c.in-For.first in
    let condition = expression_of c.in-For.condition in
    let third = option_map simple_of c.in-For.third in
    let whole =
    ap statement_of_kind c.in-For.is
    ∙ ap (λ l. tree.For first condition third (map annotation_of l) (statement_of c.in-For.body.value)) (sym c.deref-in-For.ensures.value)
    ∙ ap (λ b. tree.For first condition third (map annotation_of c.deref-in-For.result.now) (statement_of b)) (sym c.deref-in-For-2.ensures) in
    (omega (arith, ap size_statement whole, c.decreases), subst (StatementHasTexts c.args.self.now.texts.now) whole c.requires)

pub statement-returns-in-For-clause-answers : goal.statement-returns-in-For-clause-answers
statement-returns-in-For-clause-answers t c =
    let shape = ap statement_of_kind c.in-For.is in
    rw shape (rw (c.deref-in-For.ensures.value, c.deref-in-For-2.ensures) at c.for_loop.ensures.answers)

pub statement-returns-in-For-clause-cause : goal.statement-returns-in-For-clause-cause
statement-returns-in-For-clause-cause t c =
    let env = environment_of c.args.self.now.environment.now in
    let at = scope_of c.args.self.now.scope in
    let first = c.in-For.first in
    let condition = c.in-For.condition in
    let third = c.in-For.third in
    let notes = c.deref-in-For.result.now in
    IfErr-weaker c.for_loop.result _ _ (λ f h.
    subst (λ k. (f.kind ≡ OutOfMemory) ⊎ InStatement env f at k c.args.span) (sym c.in-For.is)
    (subst (λ l. (f.kind ≡ OutOfMemory) ⊎ InFor env f at first condition third l c.in-For.body.value) c.deref-in-For.ensures.value
    (subst (λ b. (f.kind ≡ OutOfMemory) ⊎ InFor env f at first condition third notes b) c.deref-in-For-2.ensures h))) c.for_loop.ensures.cause
