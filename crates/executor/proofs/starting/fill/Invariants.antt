use Rattle.std.proofs.Common.{◌≡◌, length}
use Rattle.std.specs.List.{All}
use Rattle.std.specs.Vec.Iter.{into_iter_items}
use Rattle.task_queue.specs.Tasked.{IsTask}
use Rattle.executor.proofs.starting.fill.Given as goal

-- the tasks that are left are in hand
abbrev pub invariant-loop-task : goal.invariant-loop-task
invariant-loop-task g l =
    (goal.iterator-loop-task g).can_next l.task-iterator × (goal.iterator-loop-task g).is_finite l.task-iterator
    × All (IsTask l.queue.roster) (into_iter_items l.task-iterator)
    × (l.pass.queue ≡ l.queue)
    × (l.pass.in_hand ≡ length (into_iter_items l.task-iterator))
