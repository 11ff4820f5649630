use Rattle.std.proofs.Common.{map, ◌∙◌}
use Rattle.c0_syntax.specs.Views.{annotation_of, spec_of}
use Rattle.c0_rules.specs.Mentions.{spec_mentions, specs_in}
use Rattle.c0_types_flow.proofs.Collected.{texts_step}
use Rattle.c0_types_flow.proofs.Steps.{annotation_split}
use Rattle.c0_types_flow.proofs.mentioned.texts.Texts.annotations.Goals as goal

pub loop-annotation-preserved : goal.loop-annotation-preserved
loop-annotation-preserved c =
    texts_step (λ x. spec_mentions (map spec_of x.specs.items)) (λ xs. spec_mentions (specs_in (map annotation_of xs))) annotation_split c.args.annotations.now c.loop-annotation.annotation-index c.annotation-item.result c.loop-annotation-test.true c.annotation-item.is _ _ (rw c.deref.ensures.value at c.in_ok-specs.ensures)
    ∙ c.loop-annotation.invariant
