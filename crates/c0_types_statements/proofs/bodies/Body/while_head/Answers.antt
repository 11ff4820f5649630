use Rattle.std.proofs.Common.{map, ap, sym, Some, None}
use Rattle.std.proofs.lemmas.Result.{IfErr-weaker, err_from_is_err_and}
use Rattle.c0_syntax.specs.Views.{annotation_of, expression_of}
use Rattle.c0_types_tables.specs.Views.{environment_of}
use Rattle.c0_types_bodies.specs.Bodies.{scope_of}
use Rattle.c0_types_bodies.proofs.Kept.{first_alone, second_more}
use Rattle.c0_types_bodies.proofs.LoopParts.{condition_none, head_answers, head_cause}
use Rattle.c0_types_statements.proofs.bodies.Body.while_head.Goals as goal

pub returns-in_err-condition-clause-answers : goal.returns-in_err-condition-clause-answers
returns-in_err-condition-clause-answers c =
    let p = err_from_is_err_and c.from_residual.result c.from_residual.ensures.1 in
    rw (p.1, p.2) (condition_none (environment_of c.args.self.now.environment.now) (expression_of c.args.condition.now) None (map annotation_of c.args.annotations.now) (scope_of c.args.self.now.scope) c.in_err-condition.ensures.answers)

pub returns-in_err-condition-clause-cause : goal.returns-in_err-condition-clause-cause
returns-in_err-condition-clause-cause c =
    let p = err_from_is_err_and c.from_residual.result c.from_residual.ensures.1 in
    rw (p.1, p.2) (first_alone c.in_err-condition.ensures.cause)

pub returns-clause-answers : goal.returns-clause-answers
returns-clause-answers c =
    let env = environment_of c.args.self.now.environment.now in
    let texts = c.args.self.now.texts.now in
    head_answers env texts (expression_of c.args.condition.now) None (map annotation_of c.args.annotations.now) (scope_of c.args.self.now.scope) c.in_ok-condition.condition c.skip.result c.invariants-invariants.result c.headed.result c.in_ok-condition.ensures.answers (ap Some (sym (c.skip.ensures texts))) c.invariants-invariants.ensures.answers c.headed.ensures

pub returns-clause-cause : goal.returns-clause-cause
returns-clause-cause c =
    let env = environment_of c.args.self.now.environment.now in
    IfErr-weaker c.headed.result _ _ (λ f h. second_more h) (head_cause env _ c.in_ok-condition.condition c.skip.result c.invariants-invariants.result c.headed.result c.headed.ensures c.invariants-invariants.ensures.cause)
