use Rattle.std.proofs.Common.{◌≡◌, true, ◌∙◌, rules}
use Rattle.std.specs.Prelude.{bytes_eq}
use Rattle.c0_types_flow.proofs.Lists.{any_of_map, passes_at}
use Rattle.c0_types_flow.proofs.flow.lists.Walk.meets.Goals as goal

pub returns-in-Some-clause-found : goal.returns-in-Some-clause-found
returns-in-Some-clause-found c e =
    let found = c.in-Some.ensures.lookup in
    let names = c.args.self.now.names.now in
    let same : bytes_eq c.args.name.now c.in-Some.other.now.now ≡ true = search rules in
    any_of_map (bytes_eq c.args.name.now) (λ n. n.now) names
    ∙ passes_at (λ n. bytes_eq c.args.name.now n.now) names c.args.self.now.next c.in-Some.other.now found.3.0 found.1 same
