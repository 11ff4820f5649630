use Rattle.std.proofs.Common.{◌≡◌, ◌++◌, ◌∷◌, [], cond, sym, ap, ◌∙◌, arith, rules, subst, length, vec_len}
use Rattle.code_form.specs.Code.{same_kind}
use Rattle.lower_tables.specs.Indexed.{IsIndexed, slot}
use Rattle.lower_tables.specs.Kinds.{position}
use Rattle.lower_tables.proofs.Founds.{added}
use Rattle.lower_tables.proofs.singles.Singles.add.Goals as goal

pub invariant_of-self-2 : goal.invariant_of-self-2
invariant_of-self-2 c =
    let kinds = c.self.inside.kinds in
    let many : vec_len kinds ≡ length kinds.items = search rules in
    let place : position c.args.kind c.args.self.now ≡ position c.args.kind kinds.items = ap (position c.args.kind) (sym c.self.view_is) in
    let long : length c.args.self.now ≡ length kinds.items = ap length (sym c.self.view_is) in
    let gone : length kinds.items ≡ position c.args.kind kinds.items = omega (arith, many, place, long, c.len.ensures, c.if-position-len.false, c.position.ensures.place, c.position.ensures.within) in
    subst (IsIndexed c.put.new.self) (ap (λ ks. ks ++ c.args.kind ∷ []) (sym c.reserve.ensures.items) ∙ sym c.push_reserved.ensures.items) (added c.self.inside.index c.put.new.self c.args.kind kinds.items c.self.invariant gone
    (λ k. c.in_ok-put.ensures k ∙ ap (λ m. cond (same_kind k c.args.kind) m (slot c.self.inside.index k)) (omega (arith, many, long, c.len-2.ensures, c.reserve.ensures.len, c.requires))))
