use Rattle.std.proofs.Common.{arith, map, string_bytes, ◌≡◌, Some, sym, ◌∙◌, ap}
use Rattle.std.specs.Option.{option_copied}
use Rattle.std.proofs.lemmas.List.{length-map}
use Rattle.c0_types_tables.specs.Numbered.{place_in}
use Rattle.c0_types_tables.proofs.Numbers.{place_within}
use Rattle.c0_types_tables.proofs.names.Names.get.Goals as goal

pub returns-in-Some-clause-small : goal.returns-in-Some-clause-small
returns-in-Some-clause-small c =
    let names = map string_bytes c.self.inside.names.items in
    let there : place_in 0 names c.args.name.now ≡ Some c.in-Some.number.now = sym (c.self.invariant.1 c.args.name.now) ∙ sym c.get.ensures.value ∙ ap option_copied c.in-Some.is in
    let small = place_within 0 names c.args.name.now c.in-Some.number.now there in
    omega (arith, small, length-map c.self.inside.names.items string_bytes, c.self.invariant.0)
