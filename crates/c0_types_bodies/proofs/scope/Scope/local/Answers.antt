use Rattle.std.proofs.Common.{ap, ◌∙◌, string_bytes, rules, tests}
use Rattle.std.specs.Prelude.{bytes_eq, option_map}
use Rattle.std.proofs.lemmas.Iterator.{YieldsList-from_slice}
use Rattle.std.proofs.lemmas.Iterator.Search.{find_from_yields_List}
use Rattle.c0_types_terms.specs.Terms.{local_of}
use Rattle.c0_types_bodies.proofs.Scopes.{find_mapped, option_map_twice}
use Rattle.c0_types_bodies.proofs.scope.Scope.local.Goals as goal

pub returns : goal.returns
returns c =
    let locals = c.args.self.now.locals.items in
    let found = find_from_yields_List (λ l. bytes_eq c.args.name.now (string_bytes l.name)) _ _ c.find.result c.find.ensures.ran (YieldsList-from_slice locals (search rules)) (λ x b q k. search (rules, tests)) in
    option_map_twice (λ r. r.now) local_of c.find.result ∙ ap (option_map local_of) found ∙ find_mapped local_of (λ l. bytes_eq c.args.name.now l.name) locals
