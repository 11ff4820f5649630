use Rattle.std.proofs.Common.{◌+◌, ◌-◌, ◌∙◌, sym, arith}
use Rattle.std.proofs.lemmas.Result.{err_from_is_err_and}
use Rattle.c0_grammar_laws.specs.ReadExpressions.{suffixes}
use Rattle.c0_parser_cursor.specs.Found.{found_type}
use Rattle.c0_parser_cursor.proofs.Stepped.{done_stands, more_stands, type_done, type_low, type_more}
use Rattle.c0_parser_cursor.proofs.Turned.{fails_along, suffixes_end, suffixes_turn}
use Rattle.c0_parser_cursor.proofs.cursor.Cursor.type_suffixes.Goals as goal

pub returns-in_err-more-clause-given : goal.returns-in_err-more-clause-given
returns-in_err-more-clause-given c =
    let d = c.args.depth in
    let n = d - (c.loop-turn._turn + 1) in
    let p = err_from_is_err_and c.from_residual.result c.from_residual.ensures.1 in
    let turn = suffixes_turn d (d - c.loop-turn._turn) n (found_type c.loop-turn.self.seen c.loop-turn.found) _ (omega arith) c.loop-turn.invariant.1 in
    rw (p.1, p.2) (fails_along c.in_err-more.field-0.0 _ _ turn (c.in_err-more.ensures.given (suffixes d n)))

pub returns-in-Done-clause-given : goal.returns-in-Done-clause-given
returns-in-Done-clause-given c =
    let d = c.args.depth in
    let n = d - (c.loop-turn._turn + 1) in
    let turn = suffixes_turn d (d - c.loop-turn._turn) n (found_type c.loop-turn.self.seen c.loop-turn.found) _ (omega arith) c.loop-turn.invariant.1 in
    sym turn ∙ type_done (suffixes d n) c.type_suffix.new.self.seen _ c.in-Done.done _ c.in-Done.is (c.in_ok-more.ensures.given (suffixes d n))

pub loop-turn-preserved : goal.loop-turn-preserved
loop-turn-preserved c =
    let d = c.args.depth in
    let n = d - (c.loop-turn._turn + 1) in
    let turn = suffixes_turn d (d - c.loop-turn._turn) n (found_type c.loop-turn.self.seen c.loop-turn.found) _ (omega arith) c.loop-turn.invariant.1 in
    let more = type_more (suffixes d n) c.type_suffix.new.self.seen _ c.in-More.more _ c.in-More.is (c.in_ok-more.ensures.given (suffixes d n)) in
    (type_low d _ c.in-More.more c.in-More.is c.in_ok-more.ensures.small, sym more ∙ turn, λ first stands. more_stands first c.type_suffix.new.self.position _ c.in-More.more c.in-More.is (c.in_ok-more.ensures.placed first (c.loop-turn.invariant.2 first stands)))

pub returns-clause-given : goal.returns-clause-given
returns-clause-given c =
    let d = c.args.depth in
    rw c.too_deep.ensures (suffixes_end d (d - c.loop-turn._turn) (found_type c.loop-turn.self.seen c.loop-turn.found) _ (omega arith) c.loop-turn.invariant.1)

pub returns-in-Done-clause-placed : goal.returns-in-Done-clause-placed
returns-in-Done-clause-placed c = λ first stands. done_stands first c.type_suffix.new.self.position _ c.in-Done.done c.in-Done.is (c.in_ok-more.ensures.placed first (c.loop-turn.invariant.2 first stands))
