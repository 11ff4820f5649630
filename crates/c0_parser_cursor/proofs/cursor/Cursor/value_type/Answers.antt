use Rattle.std.proofs.Common.{arith}
use Rattle.std.proofs.lemmas.Result.{err_from_is_err_and}
use Rattle.c0_grammar_laws.specs.Outcome.{kind_at}
use Rattle.c0_grammar_laws.specs.ReadExpressions.{base_by, suffixes}
use Rattle.c0_parser_cursor.specs.Found.{found_type}
use Rattle.c0_parser_cursor.proofs.Turned.{fails_along, fails_bind, gives_along, gives_behind, type_none, type_some}
use Rattle.c0_parser_cursor.proofs.cursor.Cursor.value_type.Goals as goal

pub returns-then-depth-eq0-clause-given : goal.returns-then-depth-eq0-clause-given
returns-then-depth-eq0-clause-given c = rw c.too_deep.ensures (type_none c.args.types.now c.args.depth c.args.self.now.seen c.if-depth-eq0.true)

pub returns-in_err-value_type-clause-given : goal.returns-in_err-value_type-clause-given
returns-in_err-value_type-clause-given c =
    let d = c.args.depth in
    let ts = c.args.self.now.seen in
    let p = err_from_is_err_and c.from_residual.result c.from_residual.ensures.1 in
    rw (p.1, p.2) (fails_along c.in_err-value_type.field-0.0 _ _ (type_some c.args.types.now d ts (omega arith)) (fails_bind c.in_err-value_type.field-0.0 (base_by (kind_at c.args.types.now ts) ts) (suffixes d d) c.in_err-value_type.ensures.given))

pub returns-clause-given : goal.returns-clause-given
returns-clause-given c =
    let d = c.args.depth in
    let ts = c.args.self.now.seen in
    let view = found_type c.type_suffixes.new.self.seen in
    gives_along view c.type_suffixes.result _ _ (type_some c.args.types.now d ts (omega arith)) (gives_behind view c.type_suffixes.result (base_by (kind_at c.args.types.now ts) ts) _ (suffixes d d) c.in_ok-value_type.ensures.given c.type_suffixes.ensures.given)
