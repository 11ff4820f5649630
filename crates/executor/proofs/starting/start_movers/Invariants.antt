use Rattle.std.proofs.Common.{◌≡◌, ◌+◌, ◌-◌, ◌++◌, ◌≤◌, length, vec_capacity, vec_len}
use Rattle.std.specs.List.{All}
use Rattle.std.specs.Vec.Iter.{into_iter_items}
use Rattle.object_lock.specs.Fresh.{IsFreshMover}
use Rattle.executor.specs.Given.{AreMovers}
use Rattle.executor.proofs.starting.start_movers.Given as goal

abbrev pub invariant-loop-seat : goal.invariant-loop-seat
invariant-loop-seat g l =
    (goal.iterator-loop-seat g).can_next l.seat-iterator × (goal.iterator-loop-seat g).is_finite l.seat-iterator
    × (vec_len l.movers + length (into_iter_items l.seat-iterator) ≤ vec_capacity l.movers)
    × All (IsFreshMover l.region.table) (into_iter_items l.seat-iterator)
    × All (λ p. p ≡ l.hints) l.passes.items
    × (length (into_iter_items l.seat-iterator) ≤ (l.evacuators - vec_len l.movers) + length l.passes.items)
    × (l.yielded ++ into_iter_items l.seat-iterator ≡ l.fn.seats.items)
    × AreMovers l.region.table l.first l.evacuators (length l.yielded) l.movers.items
