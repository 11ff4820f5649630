use Rattle.std.proofs.Common.{ap, ◌∙◌, rules}
use Rattle.std.specs.Prelude.{bytes_eq, filter, not}
use Rattle.std.proofs.lemmas.Fn.{filter_same}
use Rattle.c0_types_flow.specs.FlowViews.{letters_of}
use Rattle.c0_types_flow.proofs.Flows.{filter_of_map}
use Rattle.c0_types_flow.proofs.flow.lists.without.Goals as goal

pub returns : goal.returns
returns c =
    ap letters_of (filter_same _ (λ x. not (bytes_eq c.args.name.now x.now)) _ (λ x b f' k. search rules) _ _ c.retain.ensures.filtered)
    ∙ filter_of_map (λ m. not (bytes_eq c.args.name.now m)) (λ x. x.now) _
    ∙ ap (λ z. filter (λ m. not (bytes_eq c.args.name.now m)) (letters_of z)) c.in_ok-rest.ensures.items
