use Rattle.std.proofs.Common.{ap, sym, ◌∙◌, is_some, rules, tests}
use Rattle.std.specs.Prelude.{bytes_eq}
use Rattle.std.proofs.lemmas.Iterator.{YieldsList-from_slice}
use Rattle.std.proofs.lemmas.Iterator.Search.{position_from_yields_List}
use Rattle.c0_types_flow.proofs.Lists.{any_of_map, found_where}
use Rattle.c0_types_flow.proofs.flow.lists.place_of.Goals as goal

pub returns : goal.returns
returns c =
    ap is_some (position_from_yields_List (λ x. bytes_eq c.args.name.now x.now) _ _ _ c.position.ensures.ran (YieldsList-from_slice c.args.names.now (search rules)) (λ x b q k. search (rules, tests)))
    ∙ found_where (λ x. bytes_eq c.args.name.now x.now) c.args.names.now
    ∙ sym (any_of_map (bytes_eq c.args.name.now) (λ x. x.now) c.args.names.now)
