use Rattle.std.proofs.Common.{◌≡◌, ◌+◌, ◌++◌, ◌≤◌, List, Some, length, map, vec_capacity, vec_len}
use Rattle.std.specs.Vec.Iter.{into_iter_items}
use Rattle.executor.specs.Ends.{DoneView}
use Rattle.executor.proofs.filing.all_ends.Given as goal

-- the ends so far, and their seats
abbrev pub invariant-loop-place : goal.invariant-loop-place
invariant-loop-place g l =
    (goal.iterator-loop-place g).can_next l.place-iterator × (goal.iterator-loop-place g).is_finite l.place-iterator
    × (l.yielded ++ into_iter_items l.place-iterator ≡ l.fn.places.items)
    × ((done : List (DoneView g.row.S.Denot g.row.S-Cell.Denot)) × (l.yielded ≡ map Some done) × (l.ends.items ≡ map (λ d. d.end) done) × (l.seats.items ≡ l.fn.seats.items ++ map (λ d. d.seat) done))
    × (vec_len l.ends + length (into_iter_items l.place-iterator) ≤ vec_capacity l.ends)
    × (vec_len l.seats + length (into_iter_items l.place-iterator) ≤ vec_capacity l.seats)
