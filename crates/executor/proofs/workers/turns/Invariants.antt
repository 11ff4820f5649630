use Rattle.std.proofs.Common.{◌≡◌}
use Rattle.executor.proofs.workers.turns.Given as goal

-- the task goes on as it was but for what it completed and printed
abbrev pub invariant-loop : goal.invariant-loop
invariant-loop g l = (goal.iterator-loop g).can_next l.iterator' × (goal.iterator-loop g).is_finite l.iterator' × (l.task ≡ record l.initial.task { completed = l.task.completed; printed = l.task.printed })
