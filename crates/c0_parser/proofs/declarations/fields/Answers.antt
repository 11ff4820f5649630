use Rattle.std.proofs.Common.{ap, sym, ◌∙◌, ◌+◌, ◌-◌, map, arith}
use Rattle.std.proofs.lemmas.Result.{err_from_is_err_and}
use Rattle.c0_syntax.specs.Views.{typed_name_of}
use Rattle.c0_grammar_laws.specs.ReadPrograms.{read_fields}
use Rattle.c0_parser.specs.FoundPrograms.{one_field}
use Rattle.c0_parser.proofs.ListLoops.{list_done, list_fails, list_more, list_refused, map_push}
use Rattle.c0_parser.proofs.ProgramLoops.{fields_last, fields_none, fields_step}
use Rattle.c0_grammar_laws.specs.Places.{skip}
use Rattle.c0_parser.proofs.PlacedLoops.{fields_grow}
use Rattle.c0_parser.proofs.declarations.fields.Goals as goal

pub returns-in-RBrace-clause-given : goal.returns-in-RBrace-clause-given
returns-in-RBrace-clause-given c =
    let d = c.args.depth in
    let ty = c.args.types.now in
    let m = c.args.most - c.loop-turn._turn in
    let n = c.args.most - (c.loop-turn._turn + 1) in
    rw c.advance.ensures.seen (list_done (map typed_name_of c.loop-turn.fields.items) (read_fields ty d m c.loop-turn.cursor.seen) _ _ (fields_last ty d m n c.loop-turn.cursor.seen (omega arith) (sym c.in-RBrace.ensures)) c.loop-turn.invariant.0)

pub returns-in_err-field-in_default-clause-given : goal.returns-in_err-field-in_default-clause-given
returns-in_err-field-in_default-clause-given c =
    let d = c.args.depth in
    let ty = c.args.types.now in
    let m = c.args.most - c.loop-turn._turn in
    let n = c.args.most - (c.loop-turn._turn + 1) in
    let p = err_from_is_err_and c.from_residual.result c.from_residual.ensures.1 in
    rw (p.1, p.2) (list_fails (map typed_name_of c.loop-turn.fields.items) (read_fields ty d m c.loop-turn.cursor.seen) _ (one_field ty d c.loop-turn.cursor.seen) (read_fields ty d n) c.in_err-field-in_default.field-0.0 (fields_step ty d m n c.loop-turn.cursor.seen (omega arith) (λ e. c.in_default.not-RBrace (c.peek.ensures ∙ e))) c.in_err-field-in_default.ensures.given c.loop-turn.invariant.0)

pub loop-turn-preserved : goal.loop-turn-preserved
loop-turn-preserved c =
    let d = c.args.depth in
    let ty = c.args.types.now in
    let m = c.args.most - c.loop-turn._turn in
    let n = c.args.most - (c.loop-turn._turn + 1) in
    let x = c.in_ok-field-in_default.field in (
      rw (c.in_ok-push-in_default.ensures.items, map_push typed_name_of c.loop-turn.fields.items x)
          (list_more (map typed_name_of c.loop-turn.fields.items) (read_fields ty d m c.loop-turn.cursor.seen) _ (one_field ty d c.loop-turn.cursor.seen) (read_fields ty d n) (record { value = typed_name_of x; rest = c.struct_field.new.cursor.seen }) (fields_step ty d m n c.loop-turn.cursor.seen (omega arith) (λ e. c.in_default.not-RBrace (c.peek.ensures ∙ e))) c.in_ok-field-in_default.ensures.given c.loop-turn.invariant.0),
      fields_grow c.args.cursor.now.position c.loop-turn.cursor.position c.struct_field.new.cursor.position c.loop-turn.fields.items _ x c.in_ok-push-in_default.ensures.items c.loop-turn.invariant.1 c.in_ok-field-in_default.ensures.placed,
    )

pub returns-clause-given : goal.returns-clause-given
returns-clause-given c =
    let d = c.args.depth in
    let ty = c.args.types.now in
    let m = c.args.most - c.loop-turn._turn in
    rw c.syntax.ensures (list_refused (map typed_name_of c.loop-turn.fields.items) (read_fields ty d m c.loop-turn.cursor.seen) _ c.loop-turn.cursor.seen (fields_none ty d m c.loop-turn.cursor.seen (omega arith)) c.loop-turn.invariant.0)

pub returns-in-RBrace-clause-placed : goal.returns-in-RBrace-clause-placed
returns-in-RBrace-clause-placed c = (c.loop-turn.invariant.1.0, ap skip c.loop-turn.invariant.1.1 ∙ c.advance.ensures.position)
