use Rattle.std.proofs.Common.{map, ◌∙◌, refl}
use Rattle.c0_syntax.specs.Views.{declaration_of}
use Rattle.c0_rules.specs.Mentions.{declaration_mentions, program_mentions}
use Rattle.c0_types_flow.proofs.Collected.{texts_step}
use Rattle.c0_types_flow.proofs.mentioned.texts.Texts.declarations.Goals as goal

pub loop-declaration-preserved : goal.loop-declaration-preserved
loop-declaration-preserved c =
    texts_step (λ x. declaration_mentions (declaration_of x)) (λ xs. program_mentions (map declaration_of xs)) (λ x xs. refl) c.args.declarations.now c.loop-declaration.declaration-index c.declaration-item.result c.loop-declaration-test.true c.declaration-item.is _ _ c.in_ok-declaration.ensures
    ∙ c.loop-declaration.invariant
