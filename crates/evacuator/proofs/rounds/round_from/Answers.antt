use Rattle.std.proofs.Common.{◌≡◌, ◌≤◌, ◌+◌, ap, arith, refl, rules, sym, subst}
use Rattle.object_moves.specs.Ways.{did_of}
use Rattle.evacuator.specs.declared.counts.Round.{Round}
use Rattle.evacuator.specs.Rounds.{Evacuates, Visits, moves_of}
use Rattle.evacuator.proofs.Adding.{evacuates_both, still_more}
use Rattle.evacuator.proofs.Visits.{visits_both, visits_none}
use Rattle.evacuator.proofs.rounds.round_from.Goals as goal

pub loop-i-preserved : goal.loop-i-preserved
loop-i-preserved g c =
    let before = c.loop-i.invariant in
    let s = c.args.seat.now in
    let u = c.visit.new.seat in let z = c.table-table.result.now.sizes in let number : c.loop-i.seat.view.number ≡ s.view.number = ap (λ x. x.view.number) before.1.same in
    let sum = sym c.and-round.ensures in
    let told = evacuates_both s c.loop-i.seat u c.loop-i.round c.visit.result before.1 c.visit.ensures.told in
    let still = still_more s c.loop-i.seat u c.loop-i.round c.visit.result before.4 c.visit.ensures.still in
    let few : moves_of c.loop-i.round + moves_of c.visit.result ≤ c.loop-i.i + 1 = let a = before.2 in let b = c.visit.ensures.once in omega arith in (
      c.visit.ensures.table,
      subst (Evacuates s u) sum told,
      subst (λ (r : Round). moves_of r ≤ c.loop-i.i + 1) sum (omega arith),
      λ sure. subst (λ (r : Round). r.failed ≡ 0) sum (let a = before.3 sure in let b = c.visit.ensures.sure sure in omega arith),
      subst (λ (r : Round). moves_of r ≡ 0 → u ≡ s) sum still,
      subst (Visits z s.view.number (did_of s) (did_of u)) sum (visits_both z s.view.number (did_of s) (did_of c.loop-i.seat) (did_of u) c.loop-i.round c.visit.result before.5 (subst (λ n. Visits z n (did_of c.loop-i.seat) (did_of u) c.visit.result) number c.visit.ensures.visits)),
    )

pub loop-i-init : goal.loop-i-init
loop-i-init g c = (search rules, search rules, search rules, search rules, search rules, visits_none c.table-table.result.now.sizes c.args.seat.now.view.number (did_of c.args.seat.now) (did_of c.args.seat.now) c.none-round.result refl c.none-round.ensures)
