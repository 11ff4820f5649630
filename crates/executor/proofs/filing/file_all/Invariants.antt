use Rattle.std.proofs.Common.{◌≡◌}
use Rattle.std.specs.List.{All}
use Rattle.std.specs.Vec.Iter.{into_iter_items}
use Rattle.executor.specs.Ends.{AreFiled}
use Rattle.executor.proofs.filing.file_all.Given as goal

-- the workers that are left, and the places
abbrev pub invariant-loop-worker : goal.invariant-loop-worker
invariant-loop-worker g l =
    (goal.iterator-loop-worker g).can_next l.worker-iterator × (goal.iterator-loop-worker g).is_finite l.worker-iterator
    × All (λ w. w ≡ l.queue) (into_iter_items l.worker-iterator)
    × AreFiled g.S.RawStore.honest g.S.RawStore.reliable l.queue.roster l.places.items
