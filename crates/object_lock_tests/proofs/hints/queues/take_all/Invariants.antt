use Rattle.std.proofs.Common.{◌≡◌, ◌≤◌}
use Rattle.object_lock_tests.proofs.hints.queues.take_all.Given as goal

-- the pass is one of the queue, and each turn took one hint at most
abbrev pub invariant-loop-more : goal.invariant-loop-more
invariant-loop-more g l = (l.pass ≡ l.hints) × (l.count ≤ l._more)
