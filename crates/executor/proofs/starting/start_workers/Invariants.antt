use Rattle.std.proofs.Common.{◌≡◌, ◌≤◌, vec_capacity, vec_len}
use Rattle.std.specs.List.{All}
use Rattle.executor.proofs.starting.start_workers.Given as goal

-- each worker so far is with this queue, and there is room for the others
abbrev pub invariant-loop-started : goal.invariant-loop-started
invariant-loop-started g l = (l.pass.queue ≡ l.queue) × All (λ w. w ≡ l.queue) l.workers.items × (vec_len l.workers ≡ l._started) × (l.count ≤ vec_capacity l.workers)
