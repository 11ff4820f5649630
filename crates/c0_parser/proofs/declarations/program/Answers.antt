use Rattle.std.proofs.Common.{refl, rules, ◌≡◌, [], ◌+◌, ◌-◌, length, map, arith}
use Rattle.std.proofs.lemmas.Result.{err_from_is_err_and}
use Rattle.c0_syntax.specs.Views.{declaration_of}
use Rattle.c0_parser.specs.FoundPrograms.{found_declaration}
use Rattle.c0_parser.proofs.ListLoops.{map_push}
use Rattle.c0_parser.proofs.ProgramLoops.{declarations_done, declarations_fail, declarations_more, declarations_none, program_starts}
use Rattle.c0_parser.proofs.PlacedLoops.{declarations_grow}
use Rattle.c0_parser.proofs.declarations.program.Goals as goal

pub loop-turn-init : goal.loop-turn-init
loop-turn-init c =
    let none : c.new-declarations.result.items ≡ [] = search rules in
    (rw (c.new-types.ensures, none) (program_starts c.args.loops (length c.args.cursor.now.seen - 0) c.args.cursor.now.seen (omega arith)), rw none (tt, refl))

pub returns-in_err-declaration-clause-given : goal.returns-in_err-declaration-clause-given
returns-in_err-declaration-clause-given c =
    let all = length c.args.cursor.now.seen in
    let p = err_from_is_err_and c.from_residual.result c.from_residual.ensures.1 in
    rw (p.1, p.2) (declarations_fail c.loop-turn.types c.args.loops (map declaration_of c.loop-turn.declarations.items) (all - c.loop-turn._turn) (all - (c.loop-turn._turn + 1)) c.loop-turn.room c.loop-turn.cursor.seen c.in_err-declaration.field-0.0 _ (omega arith) (omega arith) c.in_err-declaration.ensures.given c.loop-turn.invariant.0)

pub returns-then-remaining-eq0-clause-given : goal.returns-then-remaining-eq0-clause-given
returns-then-remaining-eq0-clause-given c =
    let all = length c.args.cursor.now.seen in
    declarations_done c.loop-turn.types c.args.loops (map declaration_of c.loop-turn.declarations.items) (all - c.loop-turn._turn) c.loop-turn.room c.loop-turn.cursor.seen _ (omega (arith, c.remaining.ensures.tokens)) c.loop-turn.invariant.0

pub loop-turn-preserved : goal.loop-turn-preserved
loop-turn-preserved c =
    let all = length c.args.cursor.now.seen in
    let x = c.in_ok-declaration.declaration in (
      rw (c.in_ok-push.ensures.items, map_push declaration_of c.loop-turn.declarations.items x, c.in_ok-declaration.ensures.names)
          (declarations_more c.loop-turn.types c.args.loops (map declaration_of c.loop-turn.declarations.items) (all - c.loop-turn._turn) (all - (c.loop-turn._turn + 1)) c.loop-turn.room c.loop-turn.cursor.seen (found_declaration c.declaration.new.room c.declaration.new.cursor.seen x) _ (omega arith) (omega (arith, c.remaining.ensures.tokens)) c.in_ok-declaration.ensures.given c.loop-turn.invariant.0),
      declarations_grow c.args.cursor.now.position c.loop-turn.cursor.position c.declaration.new.cursor.position c.loop-turn.declarations.items _ x c.in_ok-push.ensures.items c.loop-turn.invariant.1 c.in_ok-declaration.ensures.placed,
    )

pub returns-then-remaining-eq0-2-clause-given : goal.returns-then-remaining-eq0-2-clause-given
returns-then-remaining-eq0-2-clause-given c =
    let all = length c.args.cursor.now.seen in
    declarations_done c.loop-turn.types c.args.loops (map declaration_of c.loop-turn.declarations.items) (all - c.loop-turn._turn) c.loop-turn.room c.loop-turn.cursor.seen _ (omega (arith, c.remaining-2.ensures.tokens)) c.loop-turn.invariant.0

pub returns-clause-given : goal.returns-clause-given
returns-clause-given c =
    let all = length c.args.cursor.now.seen in
    rw c.syntax.ensures (declarations_none c.loop-turn.types c.args.loops (map declaration_of c.loop-turn.declarations.items) (all - c.loop-turn._turn) c.loop-turn.room c.loop-turn.cursor.seen _ (omega arith) (omega (arith, c.remaining-2.ensures.tokens)) c.loop-turn.invariant.0)

pub returns-then-remaining-eq0-clause-placed : goal.returns-then-remaining-eq0-clause-placed
returns-then-remaining-eq0-clause-placed c = c.loop-turn.invariant.1.0

pub returns-then-remaining-eq0-2-clause-placed : goal.returns-then-remaining-eq0-2-clause-placed
returns-then-remaining-eq0-2-clause-placed c = c.loop-turn.invariant.1.0
