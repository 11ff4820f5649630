use Rattle.std.proofs.Common.{◌≡◌, sym, ap, ◌∙◌, rules, length, vec_len}
use Rattle.lower_tables.specs.Indexed.{found}
use Rattle.lower_tables.specs.Kinds.{position}
use Rattle.lower_tables.proofs.Founds.{none_found}
use Rattle.lower_tables.proofs.singles.Singles.position.Goals as goal

pub returns-then-found-eq0-clause-place : goal.returns-then-found-eq0-clause-place
returns-then-found-eq0-clause-place c =
    let kinds = c.self.inside.kinds in
    let none : found c.args.kind kinds.items ≡ 0 = sym (c.self.invariant c.args.kind) ∙ sym c.get-found.ensures ∙ c.if-found-eq0.true in
    let long : vec_len kinds ≡ length kinds.items = search rules in
    c.len.ensures ∙ long ∙ none_found c.args.kind kinds.items none ∙ ap (position c.args.kind) c.self.view_is
