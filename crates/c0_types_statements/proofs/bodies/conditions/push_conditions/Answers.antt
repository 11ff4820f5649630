use Rattle.std.proofs.lemmas.Result.{err_from_is_err_and}
use Rattle.c0_typed.specs.Views.{exps_of}
use Rattle.c0_types_bodies.specs.Bodies.{role_by}
use Rattle.c0_types_terms.specs.Terms.{context_of, env_of}
use Rattle.c0_types_bodies.proofs.ConditionLists.{condition_more, condition_none, conditions_done, spec_cause, spec_has}
use Rattle.c0_types_statements.proofs.bodies.conditions.push_conditions.Goals as goal

pub condition-requires : goal.condition-requires
condition-requires c = spec_has c.args.terms.now.texts.now c.args.specs.now c.loop-spec.spec-index c.spec-item.result c.loop-spec-test.true c.spec-item.is c.requires

pub returns-in_err-found-clause-answers : goal.returns-in_err-found-clause-answers
returns-in_err-found-clause-answers c =
    let terms = c.args.terms.now in
    let p = err_from_is_err_and c.from_residual.result c.from_residual.ensures.1 in
    rw (p.1, p.2) (condition_none (env_of terms) (role_by c.args.role) (context_of terms) (exps_of terms.texts.now c.loop-spec.conditions.items) c.args.specs.now c.loop-spec.spec-index c.spec-item.result c.loop-spec-test.true c.spec-item.is _ c.in_err-found.ensures.answers c.loop-spec.invariant)

pub returns-in_err-found-clause-cause : goal.returns-in_err-found-clause-cause
returns-in_err-found-clause-cause c =
    let terms = c.args.terms.now in
    let p = err_from_is_err_and c.from_residual.result c.from_residual.ensures.1 in
    rw (p.1, p.2) (spec_cause (env_of terms) c.in_err-found.field-0.0 (role_by c.args.role) (context_of terms) c.args.specs.now c.loop-spec.spec-index c.spec-item.result c.loop-spec-test.true c.spec-item.is c.in_err-found.ensures.cause)

pub loop-spec-preserved : goal.loop-spec-preserved
loop-spec-preserved c =
    let terms = c.args.terms.now in
    rw c.in_ok-push.ensures.items (condition_more (env_of terms) (role_by c.args.role) (context_of terms) terms.texts.now c.loop-spec.conditions.items c.in_ok-found.found c.args.specs.now c.loop-spec.spec-index c.spec-item.result c.loop-spec-test.true c.spec-item.is _ c.in_ok-found.ensures.answers c.loop-spec.invariant)

pub returns-clause-answers : goal.returns-clause-answers
returns-clause-answers c =
    let terms = c.args.terms.now in
    conditions_done (env_of terms) (role_by c.args.role) (context_of terms) (exps_of terms.texts.now c.loop-spec.conditions.items) c.args.specs.now c.loop-spec.spec-index c.loop-spec-test.false _ c.loop-spec.invariant
