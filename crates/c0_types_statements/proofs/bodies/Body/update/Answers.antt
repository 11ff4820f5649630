use Rattle.std.proofs.Common.{◌≡◌, ◌∙◌, Option, ap, inr, sym}
use Rattle.std.proofs.lemmas.Result.{err_from_is_err_and}
use Rattle.c0_syntax.specs.Views.{expression_of}
use Rattle.c0_rules.specs.Expressions.{operator_rule}
use Rattle.c0_rules.specs.Statements.{Checked, Destination, change_of, expression_as, updated}
use Rattle.c0_rules.specs.Types.{IntType, and_so}
use Rattle.c0_types_tables.specs.Views.{environment_of}
use Rattle.c0_types_expressions.proofs.Refusals.{none_so}
use Rattle.c0_types_bodies.proofs.Unchanged.{not_updated}
use Rattle.c0_types_bodies.specs.Bodies.{destination_of, scope_of}
use Rattle.c0_types_statements.proofs.bodies.Body.update.Goals as goal

pub returns-in_err-check_number-clause-answers : goal.returns-in_err-check_number-clause-answers
returns-in_err-check_number-clause-answers c =
    let p = err_from_is_err_and c.from_residual-in_err-check_number.result c.from_residual-in_err-check_number.ensures.1 in
    let env = environment_of c.args.self.now.environment.now in
    let s = scope_of c.args.self.now.scope in
    let texts = c.args.self.now.texts.now in
    let q = destination_of texts c.in_ok-found.found in
    let go : Destination → Option Checked = λ q. and_so (change_of (operator_rule c.args.operator)) (λ k. and_so (expression_as env IntType s (expression_of c.args.value.now)) (λ x. updated env s k x q)) in
    rw (p.1, p.2) (inr (ap (λ o. and_so o go) c.in_ok-found.ensures.answers ∙ none_so (change_of (operator_rule c.args.operator)) _ (λ k. none_so (expression_as env IntType s (expression_of c.args.value.now)) _ (λ x.
    not_updated env s k x q (sym (c.in_err-check_number.ensures.number texts))))))
