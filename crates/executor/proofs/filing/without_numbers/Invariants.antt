use Rattle.std.proofs.Common.{◌≡◌, ◌+◌, ◌++◌, ◌≤◌, length, map, vec_capacity, vec_len}
use Rattle.std.specs.Vec.Iter.{into_iter_items}
use Rattle.executor.specs.Ends.{end_of}
use Rattle.executor.proofs.filing.without_numbers.Given as goal

-- the ends so far
abbrev pub invariant-loop-one : goal.invariant-loop-one
invariant-loop-one l =
    goal.iterator-loop-one.can_next l.one-iterator × goal.iterator-loop-one.is_finite l.one-iterator
    × (l.yielded ++ into_iter_items l.one-iterator ≡ l.fn.finished.items)
    × (l.ends.items ≡ map end_of l.yielded)
    × (vec_len l.ends + length (into_iter_items l.one-iterator) ≤ vec_capacity l.ends)
