use Rattle.std.proofs.Common.{◌≡◌, ℕ, suc, ◌+◌, ◌-◌, List, [], ◌∷◌, ◌++◌, arith, sym, subst, ap, ◌∙◌}
use Rattle.std.specs.List.{All}
use Rattle.object_lock.specs.SeatViews.{SeatView}
use Rattle.object_lock.specs.Fresh.{IsFreshOwner, AreNumbered, EndWithLast}
use Rattle.object_lock.proofs.SeatRows.{numbered_on, all_on, last_done, ends_behind}
use Rattle.object_lock.proofs.table.ObjectTable.seats.Goals as goal

pub returns-clause-made : goal.returns-clause-made
returns-clause-made g c =
    let e = c.in_default.ensures.items in let o = c.in_ok-owners.ensures.made in let m = c.in_ok-movers.ensures.made in let t = c.args.self.now in
    let s = c.in_ok-owners.last in let s' = c.movers.new.owner in let n = c.args.programs in let xs = c.in_ok-owners.owners.items in let some_programs = c.requires.numbers.1 in
    let is = o.2.1 in let whole : n - 1 + 1 ≡ n = omega arith in let number : s.view.number ≡ n = omega arith in
    let number' : s'.view.number ≡ 1 + (n - 1) = ap (λ (q : SeatView g.row.S.Denot g.row.S-Cell.Denot). q.view.number) m.2 ∙ (omega arith) in (
      subst (λ (ys : List (SeatView g.row.S.Denot g.row.S-Cell.Denot)). AreNumbered 1 n ys) (sym e) (subst (λ (q : ℕ). AreNumbered 1 q (xs ++ s' ∷ [])) whole (numbered_on 1 (n - 1) xs s' o.0 number')),
      subst (λ (ys : List (SeatView g.row.S.Denot g.row.S-Cell.Denot)). All (IsFreshOwner t c.args.share) ys) (sym e) (all_on (IsFreshOwner t c.args.share) xs s' o.1 (last_done t c.args.share n s s' _ some_programs o.2 m.2)),
      subst (λ (q : ℕ). AreNumbered (suc q) c.args.count c.in_ok-movers.movers.items) number m.0,
      m.1,
    )

pub returns-clause-last : goal.returns-clause-last
returns-clause-last g c =
    subst (λ (ys : List (SeatView g.row.S.Denot g.row.S-Cell.Denot)). EndWithLast (ys ++ c.in_ok-movers.movers.items)) (sym c.in_default.ensures.items)
    (ends_behind c.in_ok-owners.owners.items c.movers.new.owner c.in_ok-movers.movers.items c.in_ok-movers.ensures.last)
