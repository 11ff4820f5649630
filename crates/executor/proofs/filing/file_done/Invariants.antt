use Rattle.std.proofs.Common.{◌≡◌}
use Rattle.std.specs.Vec.Iter.{into_iter_items}
use Rattle.executor.specs.Ends.{AreDone, AreFiled}
use Rattle.executor.proofs.filing.file_done.Given as goal

-- the ends that are left, and the places
abbrev pub invariant-loop-one : goal.invariant-loop-one
invariant-loop-one g l =
    (goal.iterator-loop-one g).can_next l.one-iterator × (goal.iterator-loop-one g).is_finite l.one-iterator
    × AreDone g.S.RawStore.honest g.S.RawStore.reliable l.queue.roster (into_iter_items l.one-iterator)
    × AreFiled g.S.RawStore.honest g.S.RawStore.reliable l.queue.roster l.places.items
