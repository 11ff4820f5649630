use Rattle.std.proofs.Common.{◌≡◌}
use Rattle.object_lock_tests.proofs.hints.queues.fill_queue.Given as goal

-- the pass is one of the queue
abbrev pub invariant-loop-object : goal.invariant-loop-object
invariant-loop-object g l = l.mine ≡ l.hints
