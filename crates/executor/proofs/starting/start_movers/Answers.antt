use Rattle.std.proofs.Common.{rules, arith, ◌≡◌, ◌∙◌, ◌+◌, ◌-◌, ◌++◌, ◌∷◌, [], List, ℕ, ap, length, length-append, subst, sym}
use Rattle.std.specs.List.{All}
use Rattle.std.specs.Vec.Iter.{into_iter_items}
use Rattle.std.specs.declared.alloc.Global.{Global}
use Rattle.std.specs.declared.vec.Vec.{Vec}
use Rattle.hint_queue.specs.Queues.{HintsView}
use Rattle.object_lock.specs.Fresh.{AreNumbered, IsFreshMover}
use Rattle.executor.specs.Given.{AreMovers, numbered}
use Rattle.executor.specs.Movers.{MoverView}
use Rattle.executor.specs.declared.movers.Mover.{Mover}
use Rattle.executor.specs.declared.movers.Mover.TheVariants.{Evacuates, Fetches}
use Rattle.executor.proofs.Composed.{all_first, all_rest, more, none, numbered_at, seat_is_free}
use Rattle.executor.proofs.Together.{no_movers, one_evacuates, one_fetches}
use Rattle.executor.proofs.starting.start_movers.Goals as goal
use Rattle.executor.proofs.starting.start_movers.Goals.{then-at-evacuators, else-at-evacuators}

pub loop-seat-init : goal.loop-seat-init
loop-seat-init g c =
    let gives = c.into_iter-seat-iterator.ensures.into_iter_gives.0 in (
      tt,
      tt,
      search rules,
      subst (All (IsFreshMover c.args.region.now.table)) (sym gives) c.requires.seats,
      c.requires.passes,
      search rules,
      gives,
      subst (AreMovers c.args.region.now.table c.args.first c.args.evacuators 0) (search rules) (no_movers c.args.region.now.table c.args.first c.args.evacuators),
    )

pub loop-seat-preserved : goal.loop-seat-preserved
loop-seat-preserved g c =
    let before = c.loop-seat.invariant in
    let Passes : Vec HintsView Global → Type 0 = λ v. All (λ p. p ≡ c.args.hints.now) v.items in
    let yielded = c.loop-seat.yielded in
    let left = into_iter_items c.loop-seat.seat-iterator in
    let after = into_iter_items c.next.new.self in
    let seat = c.in-Some.seat in
    let t = c.args.region.now.table in
    let ms = c.loop-seat.movers.items in
    let took : left ≡ seat ∷ after = search rules in
    let long = ap length took in
    let more_len = c.push_reserved.ensures.len in
    let rest = all_rest (IsFreshMover t) _ after seat took before.3 in
    let whole = ap (λ l. yielded ++ l) (sym took) ∙ before.6 in
    let number = (numbered_at (length c.args.seats.items) c.args.first yielded after seat (subst (AreNumbered c.args.first (length c.args.seats.items)) (sym whole) c.requires.numbers)).0 in
    let grown = length-append yielded (seat ∷ []) in
    let count : length yielded + 1 ≡ length (yielded ++ seat ∷ []) = omega arith in
    let at = c.len-at.ensures in
    let many = before.7.many in
    elim c.if-at-evacuators.branch [
      | then-at-evacuators w ↦ (
        tt,
        tt,
        search rules,
        rest,
        subst Passes (sym w.passes-is) before.4,
        search rules,
        more yielded left after c.args.seats.items seat before.6 took,
        subst (λ (l : List (Mover g.row.S.Denot g.row.S-Cell.Denot)). AreMovers t c.args.first c.args.evacuators (length (yielded ++ seat ∷ [])) l) (ap (λ (m : Mover g.row.S.Denot g.row.S-Cell.Denot). ms ++ m ∷ []) (sym w.push_reserved-is) ∙ sym c.push_reserved.ensures.items)
            (subst (λ (n : ℕ). AreMovers t c.args.first c.args.evacuators n (ms ++ Evacuates w.new.result ∷ [])) count
            (one_evacuates t c.args.first c.args.evacuators (length yielded) ms before.7 w.new.result (w.new.ensures ∙ ap (numbered t) number) (let low = w.if-at-evacuators.true in omega arith))),
      )
      | else-at-evacuators w ↦ (
        tt,
        tt,
        search rules,
        rest,
        subst Passes (sym w.passes-is) w.take_pass-pass.ensures.passes,
        search rules,
        more yielded left after c.args.seats.items seat before.6 took,
        subst (λ (l : List (Mover g.row.S.Denot g.row.S-Cell.Denot)). AreMovers t c.args.first c.args.evacuators (length (yielded ++ seat ∷ [])) l) (ap (λ (m : Mover g.row.S.Denot g.row.S-Cell.Denot). ms ++ m ∷ []) (sym w.push_reserved-is) ∙ sym c.push_reserved.ensures.items)
            (subst (λ (n : ℕ). AreMovers t c.args.first c.args.evacuators n (ms ++ Fetches w.new-else-at-evacuators.result ∷ [])) count
            (one_fetches t c.args.first c.args.evacuators (length yielded) ms before.7 w.new-else-at-evacuators.result (w.new-else-at-evacuators.ensures ∙ ap (numbered t) number) (let low = w.if-at-evacuators.false in omega arith))),
      )
    ]

pub returns : goal.returns
returns g c =
    let read = none c.loop-seat.yielded (into_iter_items c.loop-seat.seat-iterator) c.args.seats.items c.loop-seat.invariant.6 (search rules) in
    subst (λ (n : ℕ). AreMovers c.args.region.now.table c.args.first c.args.evacuators n c.loop-seat.movers.items) (ap length read) c.loop-seat.invariant.7

-- the seat of a turn is fresh
pub new-requires-clause-seat : goal.new-requires-clause-seat
new-requires-clause-seat g c κs within =
    let took : into_iter_items c.loop-seat.seat-iterator ≡ c.in-Some.seat ∷ into_iter_items c.next.new.self = search rules in
    seat_is_free c.args.region.now.table c.in-Some.seat (all_first (IsFreshMover c.args.region.now.table) _ (into_iter_items c.next.new.self) c.in-Some.seat took c.loop-seat.invariant.3)

pub new-requires-else-at-evacuators-clause-seat : goal.new-requires-else-at-evacuators-clause-seat
new-requires-else-at-evacuators-clause-seat g c κs within =
    let took : into_iter_items c.loop-seat.seat-iterator ≡ c.in-Some.seat ∷ into_iter_items c.next.new.self = search rules in
    seat_is_free c.args.region.now.table c.in-Some.seat (all_first (IsFreshMover c.args.region.now.table) _ (into_iter_items c.next.new.self) c.in-Some.seat took c.loop-seat.invariant.3)
