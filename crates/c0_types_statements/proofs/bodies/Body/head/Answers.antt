use Rattle.std.proofs.Common.{◌≡◌, IfErr, map, subst, inl, inr}
use Rattle.std.specs.Prelude.{◌⊎◌, option_map}
use Rattle.std.proofs.lemmas.Result.{IfErr-weaker, err_from_is_err_and}
use Rattle.c0_source.specs.declared.fault.FaultKind.TheVariants.{OutOfMemory}
use Rattle.c0_syntax.specs.Views.{annotation_of, expression_of, simple_of}
use Rattle.c0_typed.specs.Views.{exps_of}
use Rattle.c0_rules.specs.Answers.{Answers}
use Rattle.c0_rules.specs.FaultStatements.{InAnnotations}
use Rattle.c0_rules.specs.Mentions.{specs_in}
use Rattle.c0_rules.specs.Statements.{Invariant, conditions_of_all, within}
use Rattle.c0_types_tables.specs.Views.{environment_of}
use Rattle.c0_types_bodies.specs.Bodies.{SpecsHaveTexts, scope_of}
use Rattle.c0_types_bodies.proofs.Kept.{at_start, condition_told, in_texts, notes_told, step_told}
use Rattle.c0_types_bodies.proofs.LoopParts.{condition_none, head_answers, head_cause, step_none}
use Rattle.c0_types_statements.proofs.bodies.Body.head.Goals as goal

pub invariants-invariants-requires : goal.invariants-invariants-requires
invariants-invariants-requires c = in_texts (λ w. SpecsHaveTexts w (specs_in (map annotation_of c.args.annotations.now))) c.third_part.ensures.texts c.requires.2

pub returns-in_err-condition-clause-answers : goal.returns-in_err-condition-clause-answers
returns-in_err-condition-clause-answers c =
    let p = err_from_is_err_and c.from_residual.result c.from_residual.ensures.1 in
    rw (p.1, p.2) (condition_none (environment_of c.args.self.now.environment.now) (expression_of c.args.condition.now) (option_map simple_of c.args.third.now) (map annotation_of c.args.annotations.now) (scope_of c.args.self.now.scope) c.in_err-condition.ensures.answers)

pub returns-in_err-condition-clause-cause : goal.returns-in_err-condition-clause-cause
returns-in_err-condition-clause-cause c =
    let p = err_from_is_err_and c.from_residual.result c.from_residual.ensures.1 in
    rw (p.1, p.2) (condition_told c.in_err-condition.ensures.cause)

pub returns-in-Err-clause-answers : goal.returns-in-Err-clause-answers
returns-in-Err-clause-answers c =
    step_none (environment_of c.args.self.now.environment.now) (expression_of c.args.condition.now) (option_map simple_of c.args.third.now) (map annotation_of c.args.annotations.now) (scope_of c.args.self.now.scope) c.in-Err.ensures.answers

pub returns-in-Err-clause-cause : goal.returns-in-Err-clause-cause
returns-in-Err-clause-cause c = step_told c.in-Err.ensures.cause

pub returns-in-Ok-clause-answers : goal.returns-in-Ok-clause-answers
returns-in-Ok-clause-answers c =
    let env = environment_of c.args.self.now.environment.now in
    let texts = c.args.self.now.texts.now in
    let notes = map annotation_of c.args.annotations.now in
    let found = c.invariants-invariants.result in
    let there = at_start (λ e w. Answers (λ v. exps_of w v.items) found (conditions_of_all e Invariant (within (scope_of c.third_part.new.self.scope)) (specs_in notes))) c.third_part.ensures.environment c.third_part.ensures.texts c.invariants-invariants.ensures.answers in
    let given = subst (λ s. Answers (λ v. exps_of texts v.items) found (conditions_of_all env Invariant (within s) (specs_in notes))) c.in-Ok.ensures.scope there in
    head_answers env texts (expression_of c.args.condition.now) (option_map simple_of c.args.third.now) notes (scope_of c.args.self.now.scope) c.in_ok-condition.condition c.in-Ok.third found c.headed.result c.in_ok-condition.ensures.answers c.in-Ok.ensures.answers given c.headed.ensures

pub returns-in-Ok-clause-cause : goal.returns-in-Ok-clause-cause
returns-in-Ok-clause-cause c =
    let env = environment_of c.args.self.now.environment.now in
    let notes = c.args.annotations.now in
    let found = c.invariants-invariants.result in
    let there = at_start (λ e w. IfErr found (λ f. (f.kind ≡ OutOfMemory) ⊎ InAnnotations e f Invariant (within (scope_of c.third_part.new.self.scope)) notes)) c.third_part.ensures.environment c.third_part.ensures.texts c.invariants-invariants.ensures.cause in
    let told = subst (λ s. IfErr found (λ f. (f.kind ≡ OutOfMemory) ⊎ InAnnotations env f Invariant (within s) notes)) c.in-Ok.ensures.scope there in
    IfErr-weaker c.headed.result _ _ (λ f h. notes_told h) (head_cause env _ c.in_ok-condition.condition c.in-Ok.third found c.headed.result c.headed.ensures told)
