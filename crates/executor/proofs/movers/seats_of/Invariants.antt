use Rattle.std.proofs.Common.{◌≡◌, ◌+◌, ◌++◌, ◌≤◌, length, vec_capacity, vec_len}
use Rattle.std.specs.Vec.Iter.{into_iter_items}
use Rattle.executor.specs.Given.{AreGivenBack}
use Rattle.executor.proofs.movers.seats_of.Given as goal

-- the seats so far
abbrev pub invariant-loop-mover : goal.invariant-loop-mover
invariant-loop-mover g l =
    (goal.iterator-loop-mover g).can_next l.mover-iterator × (goal.iterator-loop-mover g).is_finite l.mover-iterator
    × (l.yielded ++ into_iter_items l.mover-iterator ≡ l.fn.movers.items)
    × AreGivenBack g.S.RawStore.reliable l.yielded l.seats.items
    × (vec_len l.seats ≡ length l.yielded)
    × (vec_capacity l.seats ≡ vec_capacity l.fn.seats)
