use Rattle.std.proofs.Common.{◌≡◌, ◌+◌, ◌++◌, ◌≤◌, length, vec_capacity, vec_len}
use Rattle.std.specs.List.{All}
use Rattle.std.specs.Vec.Iter.{into_iter_items}
use Rattle.task_queue.specs.Tasked.{IsTask, roster}
use Rattle.executor.proofs.starting.begin_all.Given as goal

abbrev pub invariant-loop-seat : goal.invariant-loop-seat
invariant-loop-seat g l =
    (goal.iterator-loop-seat g).can_next l.seat-iterator × (goal.iterator-loop-seat g).is_finite l.seat-iterator
    × (l.yielded ++ into_iter_items l.seat-iterator ≡ l.fn.seats.items)
    × (length l.yielded ≡ length l.runs.items)
    × (vec_len l.runs + length (into_iter_items l.seat-iterator) ≤ vec_capacity l.runs)
    × All (IsTask (roster l.region.table l.region.programs l.share)) l.runs.items
    × All (λ p. p ≡ l.hints) l.passes.items
    × (length l.passes.items + length l.runs.items ≡ length l.initial.passes.items)
