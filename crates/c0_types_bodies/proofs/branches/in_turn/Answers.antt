use Rattle.std.proofs.Common.{ap, ◌∙◌, [], ◌∷◌, ◌++◌}
use Rattle.c0_typed.specs.Views.{block_of}
use Rattle.c0_types_bodies.proofs.BodyRows.{typed_block_is}
use Rattle.c0_types_bodies.proofs.branches.in_turn.Goals as goal

pub returns : goal.returns
returns c =
    let both = c.in_ok-push.ensures.items ∙ ap (λ l. l ++ c.args.second ∷ []) (c.in_default.ensures.items ∙ ap (λ l. l ++ c.args.first ∷ []) c.new-both.ensures.items) in
    λ texts. typed_block_is texts c.push-2.new.self ∙ ap (block_of texts) both
