use Rattle.std.proofs.Common.{◌≡◌, ◌∙◌, sym, arith, max, ◌+◌, ◌-◌, length}
use Rattle.std.proofs.lemmas.Result.{err_from_is_err_and}
use Rattle.c0_syntax.specs.Trees.{more, none}
use Rattle.c0_syntax.specs.Views.{expression_of, expressions_of}
use Rattle.c0_grammar_laws.specs.ReadExpressions.{climb, postfix, read_expression, read_type, unary}
use Rattle.c0_parser_expressions.specs.Found.{found_expression}
use Rattle.c0_parser_cursor.proofs.Turned.{fails_along, fails_bind, gives_along, gives_behind}
use Rattle.c0_parser_expressions.proofs.ExpressionLoops.{arguments_done, arguments_end, arguments_fail, arguments_grow, arguments_more, arguments_refuse, arguments_stand, climb_deep, climb_end, climb_fails, climb_more, climb_stop, climb_turn, expression_done, expression_grows, expression_low, expression_more, expression_none, expression_some, expression_stands, expressions_push, join_trees, postfix_end, postfix_turn}
use Rattle.c0_parser_expressions.proofs.expressions.+expression.Goals as goal

pub expression-returns-then-depth-eq0-clause-given : goal.expression-returns-then-depth-eq0-clause-given
expression-returns-then-depth-eq0-clause-given t c = rw c.too_deep.ensures (expression_none c.args.types.now c.args.depth c.args.least c.args.cursor.now.seen c.if-depth-eq0.true)

pub expression-returns-in_err-found-clause-given : goal.expression-returns-in_err-found-clause-given
expression-returns-in_err-found-clause-given t c =
    let p = err_from_is_err_and c.from_residual.result c.from_residual.ensures.1 in
    let d = c.args.depth in
    let ty = c.args.types.now in
    let ts = c.args.cursor.now.seen in
    rw (p.1, p.2) (fails_along c.in_err-found.field-0.0 _ _ (expression_some ty d c.args.least ts (omega arith))
    (fails_bind c.in_err-found.field-0.0 (unary ty (read_expression ty (d - 1)) (read_type ty (d - 1)) d ts) (climb ty (read_expression ty (d - 1)) (read_type ty (d - 1)) d c.args.least d) c.in_err-found.ensures.given))

pub expression-returns-clause-given : goal.expression-returns-clause-given
expression-returns-clause-given t c =
    let d = c.args.depth in
    let ty = c.args.types.now in
    let ts = c.args.cursor.now.seen in
    let view = found_expression c.operators.new.cursor.seen in
    gives_along view c.operators.result _ _ (expression_some ty d c.args.least ts (omega arith))
    (gives_behind view c.operators.result (unary ty (read_expression ty (d - 1)) (read_type ty (d - 1)) d ts) _ (climb ty (read_expression ty (d - 1)) (read_type ty (d - 1)) d c.args.least d) c.in_ok-found.ensures.given c.operators.ensures.given)

-- ---- indexes and fields

pub postfixes-returns-in_err-more-clause-given : goal.postfixes-returns-in_err-more-clause-given
postfixes-returns-in_err-more-clause-given t c =
    let d = c.args.depth in
    let ty = c.args.types.now in
    let n = d - (c.loop-turn._turn + 1) in
    let p = err_from_is_err_and c.from_residual.result c.from_residual.ensures.1 in
    let turn = postfix_turn ty (read_expression ty (d - 1)) (read_type ty (d - 1)) d (d - c.loop-turn._turn) n (found_expression c.loop-turn.cursor.seen c.loop-turn.found) _ (omega arith) c.loop-turn.invariant.1 in
    rw (p.1, p.2) (fails_along c.in_err-more.field-0.0 _ _ turn (c.in_err-more.ensures.given (postfix ty (read_expression ty (d - 1)) (read_type ty (d - 1)) d n)))

pub postfixes-returns-in-Done-clause-given : goal.postfixes-returns-in-Done-clause-given
postfixes-returns-in-Done-clause-given t c =
    let d = c.args.depth in
    let ty = c.args.types.now in
    let n = d - (c.loop-turn._turn + 1) in
    let turn = postfix_turn ty (read_expression ty (d - 1)) (read_type ty (d - 1)) d (d - c.loop-turn._turn) n (found_expression c.loop-turn.cursor.seen c.loop-turn.found) _ (omega arith) c.loop-turn.invariant.1 in
    sym turn ∙ expression_done (postfix ty (read_expression ty (d - 1)) (read_type ty (d - 1)) d n) c.postfix.new.cursor.seen _ c.in-Done.done _ c.in-Done.is (c.in_ok-more.ensures.given (postfix ty (read_expression ty (d - 1)) (read_type ty (d - 1)) d n))

pub postfixes-returns-in-Done-clause-placed : goal.postfixes-returns-in-Done-clause-placed
postfixes-returns-in-Done-clause-placed t c = λ first stands. expression_stands first c.postfix.new.cursor.position _ c.in-Done.done c.in-Done.is (c.in_ok-more.ensures.placed first (c.loop-turn.invariant.2 first stands))

pub postfixes-loop-turn-preserved : goal.postfixes-loop-turn-preserved
postfixes-loop-turn-preserved t c =
    let d = c.args.depth in
    let ty = c.args.types.now in
    let n = d - (c.loop-turn._turn + 1) in
    let turn = postfix_turn ty (read_expression ty (d - 1)) (read_type ty (d - 1)) d (d - c.loop-turn._turn) n (found_expression c.loop-turn.cursor.seen c.loop-turn.found) _ (omega arith) c.loop-turn.invariant.1 in
    let more = expression_more (postfix ty (read_expression ty (d - 1)) (read_type ty (d - 1)) d n) c.postfix.new.cursor.seen _ c.in-More.more _ c.in-More.is (c.in_ok-more.ensures.given (postfix ty (read_expression ty (d - 1)) (read_type ty (d - 1)) d n)) in
    (expression_low d _ c.in-More.more c.in-More.is c.in_ok-more.ensures.small, sym more ∙ turn, λ first stands. expression_grows first c.postfix.new.cursor.position _ c.in-More.more c.in-More.is (c.in_ok-more.ensures.placed first (c.loop-turn.invariant.2 first stands)))

pub postfixes-returns-clause-given : goal.postfixes-returns-clause-given
postfixes-returns-clause-given t c =
    let d = c.args.depth in
    let ty = c.args.types.now in
    rw c.too_deep.ensures (postfix_end ty (read_expression ty (d - 1)) (read_type ty (d - 1)) d (d - c.loop-turn._turn) (found_expression c.loop-turn.cursor.seen c.loop-turn.found) _ (omega arith) c.loop-turn.invariant.1)

-- ---- operators

pub operators-returns-then-precedence-least-clause-given : goal.operators-returns-then-precedence-least-clause-given
operators-returns-then-precedence-least-clause-given t c =
    let d = c.args.depth in
    let ty = c.args.types.now in
    climb_stop ty (read_expression ty (d - 1)) (read_type ty (d - 1)) d c.args.least (d - c.loop-turn._turn) (d - (c.loop-turn._turn + 1)) (found_expression c.loop-turn.cursor.seen c.loop-turn.found) _ (omega arith) (rw (← c.peek.ensures) (omega (arith, c.precedence.ensures.value))) c.loop-turn.invariant.1

pub operators-returns-then-found-depth-clause-given : goal.operators-returns-then-found-depth-clause-given
operators-returns-then-found-depth-clause-given t c =
    let d = c.args.depth in
    let ty = c.args.types.now in
    rw c.too_deep.ensures (climb_deep ty (read_expression ty (d - 1)) (read_type ty (d - 1)) d c.args.least (d - c.loop-turn._turn) (d - (c.loop-turn._turn + 1)) (found_expression c.loop-turn.cursor.seen c.loop-turn.found) _ (omega arith) (rw (← c.peek.ensures) (omega (arith, c.precedence.ensures.value))) (omega arith) c.loop-turn.invariant.1)

pub operators-returns-in_err-found-clause-given : goal.operators-returns-in_err-found-clause-given
operators-returns-in_err-found-clause-given t c =
    let d = c.args.depth in
    let ty = c.args.types.now in
    let n = d - (c.loop-turn._turn + 1) in
    let p = err_from_is_err_and c.from_residual.result c.from_residual.ensures.1 in
    let turn = climb_turn ty (read_expression ty (d - 1)) (read_type ty (d - 1)) d c.args.least (d - c.loop-turn._turn) n (found_expression c.loop-turn.cursor.seen c.loop-turn.found) _ (omega arith) (rw (← c.peek.ensures) (omega (arith, c.precedence.ensures.value))) (omega arith) c.loop-turn.invariant.1 in
    rw (p.1, p.2) (climb_fails ty (read_expression ty (d - 1)) (read_type ty (d - 1)) d c.args.least n (found_expression c.loop-turn.cursor.seen c.loop-turn.found) _ c.in_err-found.field-0.0 c.in_err-found.ensures.given turn)

pub operators-loop-turn-preserved : goal.operators-loop-turn-preserved
operators-loop-turn-preserved t c =
    let d = c.args.depth in
    let ty = c.args.types.now in
    let n = d - (c.loop-turn._turn + 1) in
    let turn = climb_turn ty (read_expression ty (d - 1)) (read_type ty (d - 1)) d c.args.least (d - c.loop-turn._turn) n (found_expression c.loop-turn.cursor.seen c.loop-turn.found) _ (omega arith) (rw (← c.peek.ensures) (omega (arith, c.precedence.ensures.value))) (omega arith) c.loop-turn.invariant.1 in
    (c.in_ok-found.ensures.small, climb_more ty (read_expression ty (d - 1)) (read_type ty (d - 1)) d c.args.least n (found_expression c.loop-turn.cursor.seen c.loop-turn.found) (found_expression c.joined.new.cursor.seen c.in_ok-found.found) _ c.in_ok-found.ensures.given turn, λ first stands. c.in_ok-found.ensures.placed first (c.loop-turn.invariant.2 first stands))

pub operators-returns-clause-given : goal.operators-returns-clause-given
operators-returns-clause-given t c =
    let d = c.args.depth in
    let ty = c.args.types.now in
    rw c.too_deep-2.ensures (climb_end ty (read_expression ty (d - 1)) (read_type ty (d - 1)) d c.args.least (d - c.loop-turn._turn) (found_expression c.loop-turn.cursor.seen c.loop-turn.found) _ (omega arith) c.loop-turn.invariant.1)

-- ---- arguments

pub some_arguments-returns-in_err-found-clause-given : goal.some_arguments-returns-in_err-found-clause-given
some_arguments-returns-in_err-found-clause-given t c =
    let d = c.args.depth in
    let ty = c.args.types.now in
    let all = length c.args.cursor.now.seen in
    let p = err_from_is_err_and c.from_residual.result c.from_residual.ensures.1 in
    rw (p.1, p.2) (arguments_fail ty (read_expression ty (d - 1)) (read_type ty (d - 1)) (expressions_of c.loop-turn.arguments.items) c.loop-turn.height (all - c.loop-turn._turn) (all - (c.loop-turn._turn + 1)) c.loop-turn.cursor.seen _ c.in_err-found.field-0.0 (omega arith) c.in_err-found.ensures.given c.loop-turn.invariant.1)

pub some_arguments-returns-in-RParen-clause-given : goal.some_arguments-returns-in-RParen-clause-given
some_arguments-returns-in-RParen-clause-given t c =
    let d = c.args.depth in
    let ty = c.args.types.now in
    let all = length c.args.cursor.now.seen in
    let pushed : expressions_of c.push.new.self.items ≡ join_trees (expressions_of c.loop-turn.arguments.items) (more (expression_of c.in_ok-found.found.expression) none) = rw c.in_ok-push.ensures.items (expressions_push c.loop-turn.arguments.items c.in_ok-found.found.expression) in
    let highest : c.max-height.result ≡ max c.in_ok-found.found.height c.loop-turn.height = omega (arith, c.max-height.ensures) in
    rw (pushed, highest) (arguments_done ty (read_expression ty (d - 1)) (read_type ty (d - 1)) (expressions_of c.loop-turn.arguments.items) c.loop-turn.height (all - c.loop-turn._turn) (all - (c.loop-turn._turn + 1)) c.loop-turn.cursor.seen c.advance-in-RParen.new.self.seen (found_expression c.expression.new.cursor.seen c.in_ok-found.found) _ (omega arith) c.in_ok-found.ensures.given (sym c.in-RParen.ensures) c.advance-in-RParen.ensures.seen c.loop-turn.invariant.1)

pub some_arguments-returns-in-RParen-clause-placed : goal.some_arguments-returns-in-RParen-clause-placed
some_arguments-returns-in-RParen-clause-placed t c =
    arguments_stand c.args.cursor.now.position c.loop-turn.cursor.position c.expression.new.cursor.position c.advance-in-RParen.new.self.position c.loop-turn.arguments.items c.push.new.self.items c.in_ok-found.found.expression c.in_ok-push.ensures.items c.loop-turn.invariant.2 c.in_ok-found.ensures.placed c.advance-in-RParen.ensures.position

pub some_arguments-returns-in_default : goal.some_arguments-returns-in_default
some_arguments-returns-in_default t c =
    let d = c.args.depth in
    let ty = c.args.types.now in
    let all = length c.args.cursor.now.seen in
    record {
      given = rw c.syntax.ensures (arguments_refuse ty (read_expression ty (d - 1)) (read_type ty (d - 1)) (expressions_of c.loop-turn.arguments.items) c.loop-turn.height (all - c.loop-turn._turn) (all - (c.loop-turn._turn + 1)) c.loop-turn.cursor.seen (found_expression c.expression.new.cursor.seen c.in_ok-found.found) _ (omega arith) c.in_ok-found.ensures.given (λ e. c.in_default.not-Comma (c.peek.ensures ∙ e)) (λ e. c.in_default.not-RParen (c.peek.ensures ∙ e)) c.loop-turn.invariant.1);
      small = tt;
      placed = tt;
    }

pub some_arguments-loop-turn-preserved : goal.some_arguments-loop-turn-preserved
some_arguments-loop-turn-preserved t c =
    let d = c.args.depth in
    let ty = c.args.types.now in
    let all = length c.args.cursor.now.seen in
    let pushed : expressions_of c.push.new.self.items ≡ join_trees (expressions_of c.loop-turn.arguments.items) (more (expression_of c.in_ok-found.found.expression) none) = rw c.in_ok-push.ensures.items (expressions_push c.loop-turn.arguments.items c.in_ok-found.found.expression) in
    let highest : c.max-height.result ≡ max c.in_ok-found.found.height c.loop-turn.height = omega (arith, c.max-height.ensures) in (
      omega (arith, c.in_ok-found.ensures.small),
      rw (pushed, highest) (arguments_more ty (read_expression ty (d - 1)) (read_type ty (d - 1)) (expressions_of c.loop-turn.arguments.items) c.loop-turn.height (all - c.loop-turn._turn) (all - (c.loop-turn._turn + 1)) c.loop-turn.cursor.seen c.advance.new.self.seen (found_expression c.expression.new.cursor.seen c.in_ok-found.found) _ (omega arith) c.in_ok-found.ensures.given (sym c.in-Comma.ensures) c.advance.ensures.seen c.loop-turn.invariant.1),
      arguments_grow c.args.cursor.now.position c.loop-turn.cursor.position c.expression.new.cursor.position c.advance.new.self.position c.loop-turn.arguments.items c.push.new.self.items c.in_ok-found.found.expression c.in_ok-push.ensures.items c.loop-turn.invariant.2 c.in_ok-found.ensures.placed c.advance.ensures.position,
    )

pub some_arguments-returns-clause-given : goal.some_arguments-returns-clause-given
some_arguments-returns-clause-given t c =
    let d = c.args.depth in
    let ty = c.args.types.now in
    let all = length c.args.cursor.now.seen in
    rw c.syntax-2.ensures (arguments_end ty (read_expression ty (d - 1)) (read_type ty (d - 1)) (expressions_of c.loop-turn.arguments.items) c.loop-turn.height (all - c.loop-turn._turn) c.loop-turn.cursor.seen _ (omega arith) c.loop-turn.invariant.1)
