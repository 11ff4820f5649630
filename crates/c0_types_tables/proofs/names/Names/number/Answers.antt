use Rattle.std.proofs.Common.{arith, string_bytes, ◌∙◌, sym, ap, length}
use Rattle.std.proofs.lemmas.List.{length-map}
use Rattle.c0_types_tables.proofs.Numbers.{number_at, number_past}
use Rattle.c0_types_tables.proofs.names.Names.number.Goals as goal

pub returns-in-Some : goal.returns-in-Some
returns-in-Some c =
    let e = sym c.get.ensures.place ∙ c.in-Some.is in
    let same = number_at 0 c.args.self.now c.args.name.now c.in-Some.number e in
    omega (arith, same)

pub returns-in-None : goal.returns-in-None
returns-in-None c =
    let past = number_past 0 c.args.self.now c.args.name.now (sym c.get.ensures.place ∙ c.in-None.is) in
    let seen = ap length c.self.view_is in
    omega (arith, past, seen, c.len.ensures, c.self.inside.names.ok.0, length-map c.self.inside.names.items string_bytes)
