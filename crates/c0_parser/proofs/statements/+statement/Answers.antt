use Rattle.std.proofs.Common.{subst, sym, ◌∙◌, ◌+◌, ◌-◌, arith}
use Rattle.std.proofs.lemmas.Result.{err_from_is_err_and}
use Rattle.c0_syntax.specs.Views.{statement_of, statements_of}
use Rattle.c0_grammar_laws.specs.PlacedStatements.{ConditionStands}
use Rattle.c0_grammar_laws.specs.ReadStatements.{read_statement}
use Rattle.c0_parser_cursor.proofs.Turned.{gives_along}
use Rattle.c0_parser.proofs.StatementLoops.{statement_none, statement_some, statements_done, statements_fail, statements_more, statements_none, statements_push}
use Rattle.c0_parser.proofs.PlacedLoops.{statements_grow, statements_stand}
use Rattle.c0_parser.proofs.statements.+statement.Goals as goal

pub statement-returns-then-depth-eq0-clause-given : goal.statement-returns-then-depth-eq0-clause-given
statement-returns-then-depth-eq0-clause-given t c = rw c.too_deep.ensures (statement_none c.args.types.now c.args.loops c.args.depth c.args.room.now c.args.cursor.now.seen c.if-depth-eq0.true)

pub statement-returns-clause-given : goal.statement-returns-clause-given
statement-returns-clause-given t c = gives_along (λ s. record { value = statement_of s; room = c.any_statement.new.room; rest = c.any_statement.new.cursor.seen }) c.any_statement.result _ _ (statement_some c.args.types.now c.args.loops c.args.depth c.args.room.now c.args.cursor.now.seen (omega arith)) c.any_statement.ensures.given

pub statements-returns-in-RBrace-clause-given : goal.statements-returns-in-RBrace-clause-given
statements-returns-in-RBrace-clause-given t c =
    let d = c.args.depth in
    let ty = c.args.types.now in
    let m = c.args.most - c.loop-turn._turn in
    let n = c.args.most - (c.loop-turn._turn + 1) in
    rw c.advance.ensures.seen (statements_done ty c.args.loops (read_statement ty c.args.loops d) d (statements_of c.loop-turn.statements.items) m n c.loop-turn.room c.loop-turn.cursor.seen _ (omega arith) (sym c.in-RBrace.ensures) c.loop-turn.invariant.0)

pub statements-returns-in_err-statement-in_default-clause-given : goal.statements-returns-in_err-statement-in_default-clause-given
statements-returns-in_err-statement-in_default-clause-given t c =
    let d = c.args.depth in
    let ty = c.args.types.now in
    let m = c.args.most - c.loop-turn._turn in
    let n = c.args.most - (c.loop-turn._turn + 1) in
    let p = err_from_is_err_and c.from_residual.result c.from_residual.ensures.1 in
    rw (p.1, p.2) (statements_fail ty c.args.loops (read_statement ty c.args.loops d) d (statements_of c.loop-turn.statements.items) m n c.loop-turn.room c.loop-turn.cursor.seen c.in_err-statement-in_default.field-0.0 _ (omega arith) (λ e. c.in_default.not-RBrace (c.peek.ensures ∙ e)) c.in_err-statement-in_default.ensures.given c.loop-turn.invariant.0)

pub statements-loop-turn-preserved : goal.statements-loop-turn-preserved
statements-loop-turn-preserved t c =
    let d = c.args.depth in
    let ty = c.args.types.now in
    let m = c.args.most - c.loop-turn._turn in
    let n = c.args.most - (c.loop-turn._turn + 1) in
    let x = c.in_ok-statement-in_default.statement in (
      rw (c.in_ok-push-in_default.ensures.items, statements_push c.loop-turn.statements.items x)
          (statements_more ty c.args.loops (read_statement ty c.args.loops d) d (statements_of c.loop-turn.statements.items) m n c.loop-turn.room c.loop-turn.cursor.seen (record { value = statement_of x; room = c.statement.new.room; rest = c.statement.new.cursor.seen }) _ (omega arith) (λ e. c.in_default.not-RBrace (c.peek.ensures ∙ e)) c.in_ok-statement-in_default.ensures.given c.loop-turn.invariant.0),
      statements_grow c.args.cursor.now.position c.loop-turn.cursor.position c.statement.new.cursor.position c.loop-turn.statements.items _ x c.in_ok-push-in_default.ensures.items c.loop-turn.invariant.1 c.in_ok-statement-in_default.ensures.placed,
    )

pub statements-returns-clause-given : goal.statements-returns-clause-given
statements-returns-clause-given t c =
    let d = c.args.depth in
    let ty = c.args.types.now in
    let m = c.args.most - c.loop-turn._turn in
    rw c.syntax.ensures (statements_none ty c.args.loops (read_statement ty c.args.loops d) d (statements_of c.loop-turn.statements.items) m c.loop-turn.room c.loop-turn.cursor.seen _ (omega arith) c.loop-turn.invariant.0)

pub statements-returns-in-RBrace-clause-placed : goal.statements-returns-in-RBrace-clause-placed
statements-returns-in-RBrace-clause-placed t c = statements_stand c.args.cursor.now.position c.loop-turn.cursor.position c.advance.new.self.position c.loop-turn.statements.items c.loop-turn.invariant.1 c.advance.ensures.position

pub if_statement-returns-in-Ok-clause-placed : goal.if_statement-returns-in-Ok-clause-placed
if_statement-returns-in-Ok-clause-placed t c =
    let condition = subst (λ o. ConditionStands o c.in_ok-condition.condition c.test.new.cursor.position) (sym c.advance.ensures.position) c.in_ok-condition.ensures.placed in
    c.behind_first.ensures.placed c.args.cursor.now.position c.test.new.cursor.position c.start-start.ensures condition c.in-Ok.ensures.placed
