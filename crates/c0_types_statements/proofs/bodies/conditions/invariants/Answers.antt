use Rattle.std.proofs.lemmas.Result.{err_from_is_err_and}
use Rattle.c0_typed.specs.Views.{exps_of}
use Rattle.c0_rules.specs.Statements.{Invariant}
use Rattle.c0_types_terms.specs.Terms.{context_of, env_of}
use Rattle.c0_types_bodies.proofs.ConditionLists.{note_cause, note_has, note_more, note_none, notes_done}
use Rattle.c0_types_statements.proofs.bodies.conditions.invariants.Goals as goal

pub push_conditions-requires : goal.push_conditions-requires
push_conditions-requires c =
    rw c.deref.ensures.value (note_has c.args.terms.now.texts.now c.args.annotations.now c.loop-annotation.annotation-index c.annotation-item.result c.loop-annotation-test.true c.annotation-item.is c.requires)

pub returns-in_err-push_conditions-clause-answers : goal.returns-in_err-push_conditions-clause-answers
returns-in_err-push_conditions-clause-answers c =
    let terms = c.args.terms.now in
    let p = err_from_is_err_and c.from_residual.result c.from_residual.ensures.1 in
    let refused = rw c.deref.ensures.value at c.in_err-push_conditions.ensures.answers in
    rw (p.1, p.2) (note_none (env_of terms) Invariant (context_of terms) (exps_of terms.texts.now c.loop-annotation.conditions.items) c.args.annotations.now c.loop-annotation.annotation-index c.annotation-item.result c.loop-annotation-test.true c.annotation-item.is _ refused c.loop-annotation.invariant)

pub returns-in_err-push_conditions-clause-cause : goal.returns-in_err-push_conditions-clause-cause
returns-in_err-push_conditions-clause-cause c =
    let terms = c.args.terms.now in
    let p = err_from_is_err_and c.from_residual.result c.from_residual.ensures.1 in
    let there = rw c.deref.ensures.value at c.in_err-push_conditions.ensures.cause in
    rw (p.1, p.2) (note_cause (env_of terms) c.in_err-push_conditions.field-0.0 Invariant (context_of terms) c.args.annotations.now c.loop-annotation.annotation-index c.annotation-item.result c.loop-annotation-test.true c.annotation-item.is there)

pub loop-annotation-preserved : goal.loop-annotation-preserved
loop-annotation-preserved c =
    let terms = c.args.terms.now in
    let found = rw c.deref.ensures.value at c.in_ok-push_conditions.ensures.answers in
    note_more (env_of terms) Invariant (context_of terms) (exps_of terms.texts.now c.loop-annotation.conditions.items) (exps_of terms.texts.now c.push_conditions.new.conditions.items) c.args.annotations.now c.loop-annotation.annotation-index c.annotation-item.result c.loop-annotation-test.true c.annotation-item.is _ found c.loop-annotation.invariant

pub returns-clause-answers : goal.returns-clause-answers
returns-clause-answers c =
    let terms = c.args.terms.now in
    notes_done (env_of terms) Invariant (context_of terms) (exps_of terms.texts.now c.loop-annotation.conditions.items) c.args.annotations.now c.loop-annotation.annotation-index c.loop-annotation-test.false _ c.loop-annotation.invariant
