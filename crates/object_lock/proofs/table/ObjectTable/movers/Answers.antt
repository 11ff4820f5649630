use Rattle.std.proofs.Common.{◌≡◌, ℕ, suc, ◌+◌, List, ◌∷◌, ◌++◌, [], arith, sym, subst, ap, ◌∙◌}
use Rattle.std.specs.List.{All}
use Rattle.object_lock.specs.SeatViews.{SeatView}
use Rattle.object_lock.specs.Fresh.{IsFreshMover, IsLastMover, AreNumbered, EndWithLast}
use Rattle.object_lock.proofs.SeatRows.{numbered_on, all_on, mover_done, mover_next, same_but_last, ends_on}
use Rattle.object_lock.proofs.table.ObjectTable.movers.Goals as goal

pub loop-made-preserved : goal.loop-made-preserved
loop-made-preserved g c =
    let e = c.in_default.ensures.items in let i = c.loop-made.invariant in let n = c.in_ok-next.ensures.made in
    let t = c.args.self.now in let s = c.loop-made.last in let s' = c.next_mover-in-loop-made.new.last in let k = c.loop-made._made in let xs = c.loop-made.movers.items in let first = suc c.args.owner.now.view.number in
    let number : s'.view.number ≡ first + k = ap (λ (q : SeatView g.row.S.Denot g.row.S-Cell.Denot). q.view.number) n.0 ∙ i.2.1 in
    let next : suc s.view.number ≡ first + (k + 1) = let h = i.2.1 in omega arith in (
      subst (λ (ys : List (SeatView g.row.S.Denot g.row.S-Cell.Denot)). AreNumbered first (k + 1) ys) (sym e) (numbered_on first k xs s' i.0 number),
      subst (λ (ys : List (SeatView g.row.S.Denot g.row.S-Cell.Denot)). All (IsFreshMover t) ys) (sym e) (all_on (IsFreshMover t) xs s' i.1 (mover_done t _ s s' i.2 n.0)),
      subst (λ (q : ℕ). IsLastMover t q c.in_ok-next.next) next (mover_next t s c.in_ok-next.next i.2.0.0 i.2.2 n.1 n.2 n.3 n.4 n.5 n.6),
    )

pub returns-clause-made : goal.returns-clause-made
returns-clause-made g c =
    let e = c.in_default-push.ensures.items in let i = c.loop-made.invariant in let a = c.loop-made-test.false in let b = c.loop-made.auto._made-end in let k = c.loop-made._made in
    let t = c.args.self.now in let s = c.loop-made.last in let xs = c.loop-made.movers.items in let first = suc c.args.owner.now.view.number in let some_count = c.if-count-eq0.false in
    let n : k + 1 ≡ c.args.count = omega arith in (
      subst (λ (ys : List (SeatView g.row.S.Denot g.row.S-Cell.Denot)). AreNumbered first c.args.count ys) (sym e) (subst (λ (q : ℕ). AreNumbered first q (xs ++ s ∷ [])) n (numbered_on first k xs s i.0 i.2.1)),
      subst (λ (ys : List (SeatView g.row.S.Denot g.row.S-Cell.Denot)). All (IsFreshMover t) ys) (sym e) (all_on (IsFreshMover t) xs s i.1 i.2.0),
      same_but_last c.args.owner.now c.next_mover.new.last c.in_ok-last.ensures.made.0,
    )

pub returns-clause-last : goal.returns-clause-last
returns-clause-last g c =
    subst (λ (ys : List (SeatView g.row.S.Denot g.row.S-Cell.Denot)). EndWithLast (c.next_mover.new.last ∷ ys)) (sym c.in_default-push.ensures.items)
    (ends_on (c.next_mover.new.last ∷ c.loop-made.movers.items) c.loop-made.last c.loop-made.invariant.2.2)
