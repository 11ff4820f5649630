use Rattle.std.proofs.lemmas.Result.{err_from_is_err_and}
use Rattle.c0_types_terms.specs.Terms.{context_of, env_of}
use Rattle.c0_types_contracts.specs.ContractViews.{conditions_of}
use Rattle.c0_types_contracts.proofs.ContractSteps.{spec_cause, spec_has, spec_more, spec_none, specs_done}
use Rattle.c0_types_contracts.proofs.contracts.push_specs.Goals as goal

pub push_spec-requires-clause-in_texts : goal.push_spec-requires-clause-in_texts
push_spec-requires-clause-in_texts c = spec_has c.args.before.now.texts.now c.args.specs.now c.loop-spec.spec-index c.spec-item.result c.loop-spec-test.true c.spec-item.is c.requires.in_texts

pub returns-in_err-push_spec-clause-answers : goal.returns-in_err-push_spec-clause-answers
returns-in_err-push_spec-clause-answers c =
    let before = c.args.before.now in
    let p = err_from_is_err_and c.from_residual.result c.from_residual.ensures.1 in
    rw (p.1, p.2) (spec_none (env_of before) (context_of before) (context_of c.args.behind.now) _ (conditions_of before.texts.now c.loop-spec.conditions) c.args.specs.now c.loop-spec.spec-index c.loop-spec.invariant c.spec-item.result c.loop-spec-test.true c.spec-item.is c.in_err-push_spec.ensures.answers)

pub returns-in_err-push_spec-clause-cause : goal.returns-in_err-push_spec-clause-cause
returns-in_err-push_spec-clause-cause c =
    let before = c.args.before.now in
    let p = err_from_is_err_and c.from_residual.result c.from_residual.ensures.1 in
    rw (p.1, p.2) (spec_cause (env_of before) (context_of before) (context_of c.args.behind.now) c.in_err-push_spec.field-0.0 c.args.specs.now c.loop-spec.spec-index c.spec-item.result c.loop-spec-test.true c.spec-item.is c.in_err-push_spec.ensures.cause)

pub loop-spec-preserved : goal.loop-spec-preserved
loop-spec-preserved c =
    let before = c.args.before.now in
    spec_more (env_of before) (context_of before) (context_of c.args.behind.now) _ (conditions_of before.texts.now c.loop-spec.conditions) c.args.specs.now c.loop-spec.spec-index c.loop-spec.invariant c.spec-item.result c.loop-spec-test.true c.spec-item.is (conditions_of before.texts.now c.push_spec.new.conditions) c.in_ok-push_spec.ensures.answers

pub returns-clause-answers : goal.returns-clause-answers
returns-clause-answers c =
    let before = c.args.before.now in
    specs_done (env_of before) (context_of before) (context_of c.args.behind.now) _ (conditions_of before.texts.now c.loop-spec.conditions) c.args.specs.now c.loop-spec.spec-index c.loop-spec.invariant c.loop-spec-test.false
