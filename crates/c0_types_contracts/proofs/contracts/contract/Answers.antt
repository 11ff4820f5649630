use Rattle.std.proofs.Common.{[], ap, ◌∙◌, map}
use Rattle.std.proofs.lemmas.Result.{err_from_is_err_and}
use Rattle.c0_syntax.specs.Views.{annotation_of}
use Rattle.c0_typed.specs.Views.{exps_of}
use Rattle.c0_rules.specs.Mentions.{specs_in}
use Rattle.c0_types_terms.specs.Terms.{context_of, env_of}
use Rattle.c0_types_contracts.specs.ContractViews.{conditions_of, specs_added}
use Rattle.c0_types_contracts.proofs.ContractSteps.{added_all, note_cause, note_has, note_more, note_none, notes_done}
use Rattle.c0_types_contracts.proofs.contracts.contract.Goals as goal

pub push_specs-requires-clause-in_texts : goal.push_specs-requires-clause-in_texts
push_specs-requires-clause-in_texts c =
    rw c.deref.ensures.value (note_has c.args.before.now.texts.now c.args.annotations.now c.loop-annotation.annotation-index c.annotation-item.result c.loop-annotation-test.true c.annotation-item.is c.requires.in_texts)

pub returns-in_err-push_specs-clause-answers : goal.returns-in_err-push_specs-clause-answers
returns-in_err-push_specs-clause-answers c =
    let before = c.args.before.now in
    let p = err_from_is_err_and c.from_residual.result c.from_residual.ensures.1 in
    let refused = rw c.deref.ensures.value at c.in_err-push_specs.ensures.answers in
    rw (p.1, p.2) (note_none (env_of before) (context_of before) (context_of c.args.behind.now) _ (conditions_of before.texts.now c.loop-annotation.conditions) c.args.annotations.now c.loop-annotation.annotation-index c.loop-annotation.invariant c.annotation-item.result c.loop-annotation-test.true c.annotation-item.is refused)

pub returns-in_err-push_specs-clause-cause : goal.returns-in_err-push_specs-clause-cause
returns-in_err-push_specs-clause-cause c =
    let before = c.args.before.now in
    let p = err_from_is_err_and c.from_residual.result c.from_residual.ensures.1 in
    let there = rw c.deref.ensures.value at c.in_err-push_specs.ensures.cause in
    rw (p.1, p.2) (note_cause (env_of before) (context_of before) (context_of c.args.behind.now) c.in_err-push_specs.field-0.0 c.args.annotations.now c.loop-annotation.annotation-index c.annotation-item.result c.loop-annotation-test.true c.annotation-item.is there)

pub loop-annotation-init : goal.loop-annotation-init
loop-annotation-init c =
    let before = c.args.before.now in
    let specs = specs_in (map annotation_of c.args.annotations.now) in
    ap (λ z. specs_added (env_of before) (context_of before) (context_of c.args.behind.now) specs (exps_of before.texts.now z, exps_of before.texts.now c.new-2.result.items)) c.new.ensures.items
    ∙ ap (λ z. specs_added (env_of before) (context_of before) (context_of c.args.behind.now) specs (exps_of before.texts.now [], exps_of before.texts.now z)) c.new-2.ensures.items
    ∙ added_all (env_of before) (context_of before) (context_of c.args.behind.now) specs

pub loop-annotation-preserved : goal.loop-annotation-preserved
loop-annotation-preserved c =
    let before = c.args.before.now in
    let found = rw c.deref.ensures.value at c.in_ok-push_specs.ensures.answers in
    note_more (env_of before) (context_of before) (context_of c.args.behind.now) _ (conditions_of before.texts.now c.loop-annotation.conditions) c.args.annotations.now c.loop-annotation.annotation-index c.loop-annotation.invariant c.annotation-item.result c.loop-annotation-test.true c.annotation-item.is (conditions_of before.texts.now c.push_specs.new.conditions) found

pub returns-clause-answers : goal.returns-clause-answers
returns-clause-answers c =
    let before = c.args.before.now in
    notes_done (env_of before) (context_of before) (context_of c.args.behind.now) _ (conditions_of before.texts.now c.loop-annotation.conditions) c.args.annotations.now c.loop-annotation.annotation-index c.loop-annotation.invariant c.loop-annotation-test.false
