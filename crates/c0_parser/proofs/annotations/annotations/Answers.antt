use Rattle.std.proofs.Common.{sym, ◌∙◌, ◌+◌, ◌-◌, suc, length, map, arith}
use Rattle.std.proofs.lemmas.Result.{err_from_is_err_and}
use Rattle.c0_syntax.specs.Views.{annotation_of}
use Rattle.c0_grammar_laws.specs.Outcome.{next}
use Rattle.c0_grammar_laws.specs.ReadStatements.{read_annotations, read_specs}
use Rattle.c0_parser.proofs.ListLoops.{annotations_last, annotations_none, annotations_step, list_done, list_fails, list_more, list_refused, map_push}
use Rattle.c0_parser.proofs.PlacedLoops.{annotations_grow}
use Rattle.c0_parser.proofs.annotations.annotations.Goals as goal

pub returns-in_default-clause-given : goal.returns-in_default-clause-given
returns-in_default-clause-given c =
    let d = c.args.depth in
    let ty = c.args.types.now in
    let ts = c.loop-turn.cursor.seen in
    let m = suc (length c.args.cursor.now.seen) - c.loop-turn._turn in
    let n = suc (length c.args.cursor.now.seen) - (c.loop-turn._turn + 1) in
    list_done (map annotation_of c.loop-turn.annotations.items) (read_annotations ty d m ts) _ ts (annotations_last ty d m n ts (omega arith) (λ e. c.in_default.not-Begin (c.peek.ensures ∙ e))) c.loop-turn.invariant.0

pub returns-in_err-annotation-in-Begin-clause-given : goal.returns-in_err-annotation-in-Begin-clause-given
returns-in_err-annotation-in-Begin-clause-given c =
    let d = c.args.depth in
    let ty = c.args.types.now in
    let ts = c.loop-turn.cursor.seen in
    let m = suc (length c.args.cursor.now.seen) - c.loop-turn._turn in
    let n = suc (length c.args.cursor.now.seen) - (c.loop-turn._turn + 1) in
    let p = err_from_is_err_and c.from_residual.result c.from_residual.ensures.1 in
    rw (p.1, p.2) (list_fails (map annotation_of c.loop-turn.annotations.items) (read_annotations ty d m ts) _ (read_specs ty d (length ts) (next ts)) (read_annotations ty d n) c.in_err-annotation-in-Begin.field-0.0 (annotations_step ty d m n ts (omega arith) (sym c.in-Begin.ensures)) c.in_err-annotation-in-Begin.ensures.given c.loop-turn.invariant.0)

pub loop-turn-preserved : goal.loop-turn-preserved
loop-turn-preserved c =
    let d = c.args.depth in
    let ty = c.args.types.now in
    let ts = c.loop-turn.cursor.seen in
    let m = suc (length c.args.cursor.now.seen) - c.loop-turn._turn in
    let n = suc (length c.args.cursor.now.seen) - (c.loop-turn._turn + 1) in
    let x = c.in_ok-annotation-in-Begin.annotation in (
      rw (c.in_ok-push-in-Begin.ensures.items, map_push annotation_of c.loop-turn.annotations.items x)
          (list_more (map annotation_of c.loop-turn.annotations.items) (read_annotations ty d m ts) _ (read_specs ty d (length ts) (next ts)) (read_annotations ty d n) (record { value = annotation_of x; rest = c.annotation.new.cursor.seen }) (annotations_step ty d m n ts (omega arith) (sym c.in-Begin.ensures)) c.in_ok-annotation-in-Begin.ensures.given c.loop-turn.invariant.0),
      annotations_grow c.args.cursor.now.position c.loop-turn.cursor.position c.annotation.new.cursor.position c.loop-turn.annotations.items _ x c.in_ok-push-in-Begin.ensures.items c.loop-turn.invariant.1 c.in_ok-annotation-in-Begin.ensures.placed,
    )

pub returns-clause-given : goal.returns-clause-given
returns-clause-given c =
    let d = c.args.depth in
    let ty = c.args.types.now in
    let ts = c.loop-turn.cursor.seen in
    let m = suc (length c.args.cursor.now.seen) - c.loop-turn._turn in
    rw c.syntax.ensures (list_refused (map annotation_of c.loop-turn.annotations.items) (read_annotations ty d m ts) _ ts (annotations_none ty d m ts (omega arith)) c.loop-turn.invariant.0)

pub returns-in_default-clause-placed : goal.returns-in_default-clause-placed
returns-in_default-clause-placed c = c.loop-turn.invariant.1
