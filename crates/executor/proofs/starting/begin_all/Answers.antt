use Rattle.std.proofs.Common.{rules, arith, ◌≡◌, ◌∙◌, ◌+◌, ◌*◌, ◌++◌, ◌-◌, ◌<◌, ◌∷◌, [], ap, length, length-append, subst, sym}
use Rattle.std.proofs.lemmas.List.Elements.{All-push}
use Rattle.std.specs.List.{All}
use Rattle.std.specs.Vec.Iter.{into_iter_items}
use Rattle.object_lock.specs.Fresh.{AreNumbered, IsFreshOwner}
use Rattle.program_run.specs.Runs.{RunView}
use Rattle.task_queue.specs.Tasked.{IsTask, roster, roster_of}
use Rattle.executor.proofs.Composed.{all_at, more, none, numbered_at, numbered_count}
use Rattle.executor.proofs.starting.begin_all.Goals as goal

pub loop-seat-init : goal.loop-seat-init
loop-seat-init g c =
    let gives = c.into_iter-seat-iterator.ensures.into_iter_gives.0 in
    let many = numbered_count 1 (length c.args.region.now.programs) c.args.seats.items c.requires.numbers in
    let long = ap length gives in
    (tt, tt, gives, search rules, search rules, search rules, c.requires.passes, search rules)

-- ---- the seat of a turn

pub new-requires-clause-fresh : goal.new-requires-clause-fresh
new-requires-clause-fresh g c κs within =
    let took : into_iter_items c.loop-seat.seat-iterator ≡ c.in-Some.seat ∷ into_iter_items c.next.new.self = search rules in
    let whole = ap (λ l. c.loop-seat.yielded ++ l) (sym took) ∙ c.loop-seat.invariant.2 in
    (all_at (IsFreshOwner c.args.region.now.table c.args.share) c.loop-seat.yielded (into_iter_items c.next.new.self) c.in-Some.seat (subst (All (IsFreshOwner c.args.region.now.table c.args.share)) (sym whole) c.requires.seats)).0

pub new-requires-clause-own : goal.new-requires-clause-own
new-requires-clause-own g c κs within =
    let took : into_iter_items c.loop-seat.seat-iterator ≡ c.in-Some.seat ∷ into_iter_items c.next.new.self = search rules in
    let whole = ap (λ l. c.loop-seat.yielded ++ l) (sym took) ∙ c.loop-seat.invariant.2 in
    let fresh = all_at (IsFreshOwner c.args.region.now.table c.args.share) c.loop-seat.yielded (into_iter_items c.next.new.self) c.in-Some.seat (subst (All (IsFreshOwner c.args.region.now.table c.args.share)) (sym whole) c.requires.seats) in
    let end = fresh.2 in
    omega arith

pub new-requires-clause-program : goal.new-requires-clause-program
new-requires-clause-program g c κs within =
    let n = length c.args.region.now.programs in
    let took : into_iter_items c.loop-seat.seat-iterator ≡ c.in-Some.seat ∷ into_iter_items c.next.new.self = search rules in
    let whole = ap (λ l. c.loop-seat.yielded ++ l) (sym took) ∙ c.loop-seat.invariant.2 in
    let at = numbered_at n 1 c.loop-seat.yielded (into_iter_items c.next.new.self) c.in-Some.seat (subst (AreNumbered 1 n) (sym whole) c.requires.numbers) in
    let number = at.0 in
    let low = at.1 in
    (omega arith, omega arith)

pub new-requires-clause-cells : goal.new-requires-clause-cells
new-requires-clause-cells g c κs within =
    let n = length c.args.region.now.programs in
    let took : into_iter_items c.loop-seat.seat-iterator ≡ c.in-Some.seat ∷ into_iter_items c.next.new.self = search rules in
    let whole = ap (λ l. c.loop-seat.yielded ++ l) (sym took) ∙ c.loop-seat.invariant.2 in
    let at = numbered_at n 1 c.loop-seat.yielded (into_iter_items c.next.new.self) c.in-Some.seat (subst (AreNumbered 1 n) (sym whole) c.requires.numbers) in
    let number = at.0 in
    let low = at.1 in
    let place : c.in-Some.seat.view.number - 1 < n = omega arith in
    sym (c.requires.cells (c.in-Some.seat.view.number - 1) place)

pub take_pass-pass-requires-clause-some : goal.take_pass-pass-requires-clause-some
take_pass-pass-requires-clause-some g c =
    let n = length c.args.region.now.programs in
    let took : into_iter_items c.loop-seat.seat-iterator ≡ c.in-Some.seat ∷ into_iter_items c.next.new.self = search rules in
    let whole = ap (λ l. c.loop-seat.yielded ++ l) (sym took) ∙ c.loop-seat.invariant.2 in
    let low = (numbered_at n 1 c.loop-seat.yielded (into_iter_items c.next.new.self) c.in-Some.seat (subst (AreNumbered 1 n) (sym whole) c.requires.numbers)).1 in
    let same = c.loop-seat.invariant.3 in
    let left = c.loop-seat.invariant.7 in
    let enough = c.requires.enough in
    omega arith

pub loop-seat-preserved : goal.loop-seat-preserved
loop-seat-preserved g c =
    let n = length c.args.region.now.programs in
    let table = c.args.region.now.table in
    let share = c.args.share in
    let seat = c.in-Some.seat in
    let before = c.loop-seat.invariant in
    let took : into_iter_items c.loop-seat.seat-iterator ≡ seat ∷ into_iter_items c.next.new.self = search rules in
    let whole = ap (λ l. c.loop-seat.yielded ++ l) (sym took) ∙ before.2 in
    let at = numbered_at n 1 c.loop-seat.yielded (into_iter_items c.next.new.self) seat (subst (AreNumbered 1 n) (sym whole) c.requires.numbers) in
    let fresh = all_at (IsFreshOwner table share) c.loop-seat.yielded (into_iter_items c.next.new.self) seat (subst (All (IsFreshOwner table share)) (sym whole) c.requires.seats) in
    let run = c.bound.new.self in
    let runs = c.loop-seat.runs.items in
    let pushed = c.push_reserved.ensures.items in
    let same = before.3 in
    let low = at.1 in
    let number = at.0 in
    let end = fresh.2 in
    let below : length runs < n = omega arith in
    let many : seat.view.high - seat.view.low ≡ share = omega arith in
    let place : seat.view.number - 1 < n = omega arith in
    let is = c.bound.ensures ∙ c.in-Ok.ensures.begun in
    let task : IsTask (roster c.args.region.now.table c.args.region.now.programs share) run = record {
      of = ap roster_of is ∙ ap (roster c.args.region.now.table c.args.region.now.programs) many;
      named = subst (λ k. k < n) (sym (ap (λ (p : RunView). p.number) is)) place;
      placed = ap (λ (p : RunView). p.first) is ∙ fresh.1 ∙ ap (λ (p : RunView). p.number * share) (sym is);
      going = ap (λ (p : RunView). p.over) is;
    } in
    let longer = length-append c.loop-seat.yielded (seat ∷ []) in
    let grown = ap length pushed ∙ length-append runs (run ∷ []) in
    let passes = c.take_pass-pass.ensures.count in
    let left = before.7 in (
      tt,
      tt,
      more c.loop-seat.yielded (into_iter_items c.loop-seat.seat-iterator) (into_iter_items c.next.new.self) _ seat before.2 took,
      omega arith,
      search rules,
      subst (All (IsTask (roster c.args.region.now.table c.args.region.now.programs share))) (sym pushed) (All-push (IsTask (roster c.args.region.now.table c.args.region.now.programs share)) runs run before.5 task),
      c.take_pass-pass.ensures.passes,
      omega arith,
    )

-- ---- all programs are at their beginning

pub returns-clause-count : goal.returns-clause-count
returns-clause-count g c =
    let seats = none c.loop-seat.yielded (into_iter_items c.loop-seat.seat-iterator) c.args.seats.items c.loop-seat.invariant.2 (search rules) in
    let many = numbered_count 1 (length c.args.region.now.programs) c.args.seats.items c.requires.numbers in
    sym c.loop-seat.invariant.3 ∙ ap length seats ∙ many

pub returns-clause-left : goal.returns-clause-left
returns-clause-left g c =
    let seats = none c.loop-seat.yielded (into_iter_items c.loop-seat.seat-iterator) c.args.seats.items c.loop-seat.invariant.2 (search rules) in
    let many = numbered_count 1 (length c.args.region.now.programs) c.args.seats.items c.requires.numbers in
    let runs = sym c.loop-seat.invariant.3 ∙ ap length seats ∙ many in
    ap (λ k. length c.loop-seat.passes.items + k) (sym runs) ∙ c.loop-seat.invariant.7
