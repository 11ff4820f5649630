use Rattle.std.proofs.Common.{sym, ◌∙◌, ◌+◌, ◌-◌, length, map, arith}
use Rattle.std.proofs.lemmas.Result.{err_from_is_err_and}
use Rattle.c0_syntax.specs.Views.{typed_name_of}
use Rattle.c0_parser.specs.FoundPrograms.{found_parameter}
use Rattle.c0_parser.proofs.ListLoops.{map_push}
use Rattle.c0_parser.proofs.ProgramLoops.{parameters_done, parameters_fail, parameters_more, parameters_none, parameters_refuse}
use Rattle.c0_parser.proofs.PlacedLoops.{parameters_grow, parameters_stand}
use Rattle.c0_parser.proofs.declarations.some_parameters.Goals as goal

pub returns-in_err-found-clause-given : goal.returns-in_err-found-clause-given
returns-in_err-found-clause-given c =
    let all = length c.args.cursor.now.seen in
    let p = err_from_is_err_and c.from_residual.result c.from_residual.ensures.1 in
    rw (p.1, p.2) (parameters_fail c.args.types.now c.args.depth (map typed_name_of c.loop-turn.parameters.items) c.loop-turn.over c.loop-turn.room (all - c.loop-turn._turn) (all - (c.loop-turn._turn + 1)) c.loop-turn.cursor.seen c.in_err-found.field-0.0 _ (omega arith) c.in_err-found.ensures.given c.loop-turn.invariant.0)

pub returns-in-RParen-clause-given : goal.returns-in-RParen-clause-given
returns-in-RParen-clause-given c =
    let all = length c.args.cursor.now.seen in
    let x = c.in_ok-found.found in
    rw (c.in_ok-push.ensures.items, map_push typed_name_of c.loop-turn.parameters.items x.parameter, c.over_after-over.ensures, c.advance-in-RParen.ensures.seen)
    (parameters_done c.args.types.now c.args.depth (map typed_name_of c.loop-turn.parameters.items) c.loop-turn.over c.loop-turn.room (all - c.loop-turn._turn) (all - (c.loop-turn._turn + 1)) c.loop-turn.cursor.seen (found_parameter c.parameter.new.cursor.seen x) _ (omega arith) c.in_ok-found.ensures.given (sym c.in-RParen.ensures) c.loop-turn.invariant.0)

pub returns-in_default-clause-given : goal.returns-in_default-clause-given
returns-in_default-clause-given c =
    let all = length c.args.cursor.now.seen in
    rw c.syntax.ensures (parameters_refuse c.args.types.now c.args.depth (map typed_name_of c.loop-turn.parameters.items) c.loop-turn.over c.loop-turn.room (all - c.loop-turn._turn) (all - (c.loop-turn._turn + 1)) c.loop-turn.cursor.seen (found_parameter c.parameter.new.cursor.seen c.in_ok-found.found) _ (omega arith) c.in_ok-found.ensures.given (λ e. c.in_default.not-Comma (c.peek.ensures ∙ e)) (λ e. c.in_default.not-RParen (c.peek.ensures ∙ e)) c.loop-turn.invariant.0)

pub loop-turn-preserved : goal.loop-turn-preserved
loop-turn-preserved c =
    let all = length c.args.cursor.now.seen in
    let x = c.in_ok-found.found in (
      rw (c.in_ok-push.ensures.items, map_push typed_name_of c.loop-turn.parameters.items x.parameter, c.over_after-over.ensures, c.less-room.ensures, c.advance.ensures.seen)
          (parameters_more c.args.types.now c.args.depth (map typed_name_of c.loop-turn.parameters.items) c.loop-turn.over c.loop-turn.room (all - c.loop-turn._turn) (all - (c.loop-turn._turn + 1)) c.loop-turn.cursor.seen (found_parameter c.parameter.new.cursor.seen x) _ (omega arith) c.in_ok-found.ensures.given (sym c.in-Comma.ensures) c.loop-turn.invariant.0),
      parameters_grow c.args.cursor.now.position c.loop-turn.cursor.position c.parameter.new.cursor.position c.advance.new.self.position c.loop-turn.parameters.items _ x.parameter c.in_ok-push.ensures.items c.loop-turn.invariant.1 c.in_ok-found.ensures.placed c.advance.ensures.position,
    )

pub returns-clause-given : goal.returns-clause-given
returns-clause-given c =
    let all = length c.args.cursor.now.seen in
    rw c.syntax-2.ensures (parameters_none c.args.types.now c.args.depth (map typed_name_of c.loop-turn.parameters.items) c.loop-turn.over c.loop-turn.room (all - c.loop-turn._turn) c.loop-turn.cursor.seen _ (omega arith) c.loop-turn.invariant.0)

pub returns-in-RParen-clause-placed : goal.returns-in-RParen-clause-placed
returns-in-RParen-clause-placed c =
    parameters_stand c.args.cursor.now.position c.loop-turn.cursor.position c.parameter.new.cursor.position c.advance-in-RParen.new.self.position c.loop-turn.parameters.items _ c.in_ok-found.found.parameter c.in_ok-push.ensures.items c.loop-turn.invariant.1 c.in_ok-found.ensures.placed c.advance-in-RParen.ensures.position
