use Rattle.std.proofs.Common.{◌≡◌, ℕ, ◌+◌, ◌-◌, ◌≤◌, List, arith, sym, subst, ap, ◌∙◌}
use Rattle.std.specs.List.{All}
use Rattle.object_lock.specs.SeatViews.{SeatView}
use Rattle.object_lock.specs.Fresh.{IsFreshOwner, IsLastOwner, AreNumbered}
use Rattle.object_lock.proofs.SeatRows.{numbered_on, all_on, room_for, owner_done, owner_next}
use Rattle.object_lock.proofs.table.ObjectTable.owners.Goals as goal

pub next_owner-requires-clause-last : goal.next_owner-requires-clause-last
next_owner-requires-clause-last g c κs within =
    let i = c.loop-program.invariant.2 in let k = c.loop-program._program in let v = c.loop-program.last.view in let l = c.loop-program-test.true in let p = c.requires.numbers.2 in let seats = c.requires.numbers.3 in let n = i.1 in
    let room = room_for c.args.share c.args.programs k (omega arith) in
    (i.5, omega arith, sym i.4, subst (λ (q : ℕ × ℕ). q.0 + c.args.share ≤ q.1) (λ j. (sym i.2 j, sym i.3 j)) room, omega arith)

pub loop-program-preserved : goal.loop-program-preserved
loop-program-preserved g c =
    let e = c.in_default.ensures.items in let i = c.loop-program.invariant in let n = c.in_ok-next.ensures.made in let l = c.loop-program-test.true in
    let t = c.args.self.now in let s = c.loop-program.last in let s' = c.next_owner.new.last in let k = c.loop-program._program in let xs = c.loop-program.owners.items in
    let number : s'.view.number ≡ 1 + k = ap (λ (q : SeatView g.row.S.Denot g.row.S-Cell.Denot). q.view.number) n.0 ∙ (let h = i.2.1 in omega arith) in (
      subst (λ (ys : List (SeatView g.row.S.Denot g.row.S-Cell.Denot)). AreNumbered 1 (k + 1) ys) (sym e) (numbered_on 1 k xs s' i.0 number),
      subst (λ (ys : List (SeatView g.row.S.Denot g.row.S-Cell.Denot)). All (IsFreshOwner t c.args.share) ys) (sym e) (all_on (IsFreshOwner t c.args.share) xs s' i.1 (owner_done t c.args.share c.args.programs k s s' (omega arith) i.2 n.0)),
      owner_next t c.args.share c.args.programs k s c.in_ok-next.next i.2 n.1 n.2 n.3 n.4 n.5 n.6,
    )

pub returns-clause-made : goal.returns-clause-made
returns-clause-made g c =
    let i = c.loop-program.invariant in let a = c.loop-program-test.false in let b = c.loop-program.auto._program-end in let k = c.loop-program._program in
    let e : k ≡ c.args.programs - 1 = omega arith in
    subst (λ (q : ℕ). AreNumbered 1 q c.loop-program.owners.items × All (IsFreshOwner c.args.self.now c.args.share) c.loop-program.owners.items × IsLastOwner c.args.self.now c.args.share c.args.programs q c.loop-program.last) e i
