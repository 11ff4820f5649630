use Rattle.std.proofs.Common.{map, ◌∙◌}
use Rattle.c0_syntax.specs.Views.{expression_of, spec_of}
use Rattle.c0_rules.specs.Mentions.{mentions, spec_mentions}
use Rattle.c0_types_flow.proofs.Collected.{texts_step}
use Rattle.c0_types_flow.proofs.Steps.{spec_split}
use Rattle.c0_types_flow.proofs.mentioned.texts.Texts.specs.Goals as goal

pub loop-spec-preserved : goal.loop-spec-preserved
loop-spec-preserved c =
    texts_step (λ x. mentions (expression_of x.condition)) (λ xs. spec_mentions (map spec_of xs)) spec_split c.args.specs.now c.loop-spec.spec-index c.spec-item.result c.loop-spec-test.true c.spec-item.is _ _ c.in_ok-expression.ensures
    ∙ c.loop-spec.invariant
