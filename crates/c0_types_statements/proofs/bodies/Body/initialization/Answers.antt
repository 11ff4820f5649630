use Rattle.std.proofs.Common.{◌≡◌, Bool, None, Some, ap, inr, sym}
use Rattle.std.proofs.lemmas.Result.{err_from_is_err_and}
use Rattle.c0_syntax.specs.Views.{expression_of, name_of, type_of}
use Rattle.c0_typed.specs.Trees as y
use Rattle.c0_rules.specs.Statements.{expression_as, next, next_number, with_local}
use Rattle.c0_rules.specs.Types.{and_so, provided, small_type}
use Rattle.c0_types_tables.specs.Views.{environment_of}
use Rattle.c0_types_expressions.proofs.Refusals.{none_so}
use Rattle.c0_types_bodies.specs.Bodies.{scope_of}
use Rattle.c0_types_bodies.proofs.Causes.{among_four}
use Rattle.c0_types_statements.proofs.bodies.Body.initialization.Goals as goal

pub returns-in-Err-clause-cause : goal.returns-in-Err-clause-cause
returns-in-Err-clause-cause c = among_four c.in-Err.ensures.cause (λ m. (_, c.in_ok-resolved.ensures.answers, m))

pub returns-in_err-check_free-clause-answers : goal.returns-in_err-check_free-clause-answers
returns-in_err-check_free-clause-answers c =
    let p = err_from_is_err_and c.from_residual-in_err-check_free.result c.from_residual-in_err-check_free.ensures.1 in
    let env = environment_of c.args.self.now.environment.now in
    let s = scope_of c.args.self.now.scope in
    let n = name_of c.args.name.now in
    rw (p.1, p.2) (inr (none_so (small_type env.typedefs (type_of c.args.written.now)) _ (λ r. none_so (expression_as env r s (expression_of c.args.value.now)) _ (λ x.
    ap (λ (b : Bool). and_so (provided b (Some (with_local n r s))) (next (y.Set (next_number s) x))) (sym c.in_err-check_free.ensures.free)))))
