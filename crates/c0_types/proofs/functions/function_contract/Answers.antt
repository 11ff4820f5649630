use Rattle.c0_types_contracts.specs.ContractViews.{conditions_of}
use Rattle.c0_types.proofs.Earlier.{kept_answers, kept_cause}
use Rattle.c0_types.proofs.functions.function_contract.Goals as goal

pub returns-clause-answers : goal.returns-clause-answers
returns-clause-answers c =
    let found = rw (c.deref.ensures.value, c.result_type.ensures) at c.contract.ensures.answers in
    kept_answers (conditions_of c.args.texts.now) c.contract.result c.check_ensures-kept.result c.kept_conditions.result _ _ c.check_ensures-kept.ensures.answers found c.kept_conditions.ensures.one

pub returns-clause-cause : goal.returns-clause-cause
returns-clause-cause c =
    let found = rw (c.deref.ensures.value, c.result_type.ensures) at c.contract.ensures.cause in
    kept_cause (conditions_of c.args.texts.now) c.contract.result c.check_ensures-kept.result _ _ c.kept_conditions.result found c.check_ensures-kept.ensures.cause c.kept_conditions.ensures.one
