use Rattle.std.proofs.Common.{option_map}
use Rattle.std.proofs.lemmas.Result.{on_ok_weaker}
use Rattle.c0_syntax.specs.Views.{expression_of, simple_of}
use Rattle.c0_rules.specs.Mentions.{mentions, part_mentions}
use Rattle.c0_types_flow.proofs.Collected.{three_texts}
use Rattle.c0_types_flow.proofs.mentioned.texts.Texts.for_parts.Goals as goal

pub returns : goal.returns
returns c =
    on_ok_weaker c.part-2.result
    (λ h. three_texts _ _ _ _ (part_mentions (option_map simple_of c.args.first.now)) (mentions (expression_of c.args.condition.now)) (part_mentions (option_map simple_of c.args.third.now)) c.in_ok-part.ensures c.in_ok-expression.ensures h)
    c.part-2.ensures
