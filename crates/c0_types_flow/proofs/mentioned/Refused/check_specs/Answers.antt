use Rattle.std.proofs.Common.{List, map, ◌∙◌, inl, inr}
use Rattle.std.proofs.lemmas.Result.{err_from_is_err_and}
use Rattle.c0_syntax.specs.declared.statement.Spec.{Spec}
use Rattle.c0_syntax.specs.Views.{expression_of, spec_of}
use Rattle.c0_rules.specs.FaultPaths.{NamedIn, NamedInSpecs}
use Rattle.c0_types_flow.specs.FlowViews.{refused_by, told_of}
use Rattle.c0_rules.specs.Mentions.{mentions, spec_mentions}
use Rattle.c0_types_flow.proofs.Lists.{at_place, step_past}
use Rattle.c0_types_flow.proofs.Steps.{spec_split}
use Rattle.c0_types_flow.proofs.mentioned.Refused.check_specs.Goals as goal

pub returns-in_err-check_expression-clause-cause : goal.returns-in_err-check_expression-clause-cause
returns-in_err-check_expression-clause-cause c =
    let P : Spec → Type 0 = λ x. NamedIn (refused_by c.args.self.now) (told_of c.args.self.now) c.in_err-check_expression.field-0.0 x.condition.kind x.condition.span in
    let Q : List Spec → Type 0 = NamedInSpecs (refused_by c.args.self.now) (told_of c.args.self.now) c.in_err-check_expression.field-0.0 in
    let p = err_from_is_err_and c.from_residual.result c.from_residual.ensures.1 in
    rw (p.1, p.2) (at_place P Q (λ x xs h. inl h) (λ x xs h. inr h) c.args.specs.now c.loop-spec.spec-index c.spec-item.result c.loop-spec-test.true c.spec-item.is c.in_err-check_expression.ensures.cause)

pub loop-spec-preserved : goal.loop-spec-preserved
loop-spec-preserved c =
    step_past (refused_by c.args.self.now) (λ x. mentions (expression_of x.condition)) (λ xs. spec_mentions (map spec_of xs)) spec_split c.args.specs.now c.loop-spec.spec-index c.spec-item.result c.loop-spec-test.true c.spec-item.is c.in_ok-check_expression.ensures.answers
    ∙ c.loop-spec.invariant
