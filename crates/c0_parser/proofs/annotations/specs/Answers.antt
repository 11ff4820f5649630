use Rattle.std.proofs.Common.{ap, sym, ◌∙◌, ◌+◌, ◌-◌, map, arith}
use Rattle.std.proofs.lemmas.Result.{err_from_is_err_and}
use Rattle.c0_syntax.specs.Views.{spec_of}
use Rattle.c0_grammar_laws.specs.ReadStatements.{read_spec, read_specs}
use Rattle.c0_parser.proofs.ListLoops.{list_done, list_fails, list_more, list_refused, map_push, specs_last, specs_none, specs_step}
use Rattle.c0_grammar_laws.specs.Places.{skip}
use Rattle.c0_parser.proofs.PlacedLoops.{specs_grow}
use Rattle.c0_parser.proofs.annotations.specs.Goals as goal

pub returns-in-End-clause-given : goal.returns-in-End-clause-given
returns-in-End-clause-given c =
    let d = c.args.depth in
    let ty = c.args.types.now in
    let m = c.args.most - c.loop-turn._turn in
    let n = c.args.most - (c.loop-turn._turn + 1) in
    rw c.advance.ensures.seen (list_done (map spec_of c.loop-turn.specs.items) (read_specs ty d m c.loop-turn.cursor.seen) _ _ (specs_last ty d m n c.loop-turn.cursor.seen (omega arith) (sym c.in-End.ensures)) c.loop-turn.invariant.0)

pub returns-in_err-spec-in_default-clause-given : goal.returns-in_err-spec-in_default-clause-given
returns-in_err-spec-in_default-clause-given c =
    let d = c.args.depth in
    let ty = c.args.types.now in
    let m = c.args.most - c.loop-turn._turn in
    let n = c.args.most - (c.loop-turn._turn + 1) in
    let p = err_from_is_err_and c.from_residual.result c.from_residual.ensures.1 in
    rw (p.1, p.2) (list_fails (map spec_of c.loop-turn.specs.items) (read_specs ty d m c.loop-turn.cursor.seen) _ (read_spec ty d c.loop-turn.cursor.seen) (read_specs ty d n) c.in_err-spec-in_default.field-0.0 (specs_step ty d m n c.loop-turn.cursor.seen (omega arith) (λ e. c.in_default.not-End (c.peek.ensures ∙ e))) c.in_err-spec-in_default.ensures.given c.loop-turn.invariant.0)

pub loop-turn-preserved : goal.loop-turn-preserved
loop-turn-preserved c =
    let d = c.args.depth in
    let ty = c.args.types.now in
    let m = c.args.most - c.loop-turn._turn in
    let n = c.args.most - (c.loop-turn._turn + 1) in
    let x = c.in_ok-spec-in_default.spec in (
      rw (c.in_ok-push-in_default.ensures.items, map_push spec_of c.loop-turn.specs.items x)
          (list_more (map spec_of c.loop-turn.specs.items) (read_specs ty d m c.loop-turn.cursor.seen) _ (read_spec ty d c.loop-turn.cursor.seen) (read_specs ty d n) (record { value = spec_of x; rest = c.spec.new.cursor.seen }) (specs_step ty d m n c.loop-turn.cursor.seen (omega arith) (λ e. c.in_default.not-End (c.peek.ensures ∙ e))) c.in_ok-spec-in_default.ensures.given c.loop-turn.invariant.0),
      specs_grow c.args.cursor.now.position c.loop-turn.cursor.position c.spec.new.cursor.position c.loop-turn.specs.items _ x c.in_ok-push-in_default.ensures.items c.loop-turn.invariant.1 c.in_ok-spec-in_default.ensures.placed,
    )

pub returns-clause-given : goal.returns-clause-given
returns-clause-given c =
    let d = c.args.depth in
    let ty = c.args.types.now in
    let m = c.args.most - c.loop-turn._turn in
    rw c.syntax.ensures (list_refused (map spec_of c.loop-turn.specs.items) (read_specs ty d m c.loop-turn.cursor.seen) _ c.loop-turn.cursor.seen (specs_none ty d m c.loop-turn.cursor.seen (omega arith)) c.loop-turn.invariant.0)

pub returns-in-End-clause-placed : goal.returns-in-End-clause-placed
returns-in-End-clause-placed c = (c.loop-turn.invariant.1.0, ap skip c.loop-turn.invariant.1.1 ∙ c.advance.ensures.position)
