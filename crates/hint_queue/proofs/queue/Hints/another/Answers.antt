use Rattle.hint_queue.proofs.Keeps.{forks}
use Rattle.hint_queue.proofs.queue.Hints.another.Goals as goal

pub another-requires-clause-rule : goal.another-requires-clause-rule
another-requires-clause-rule c = forks _ _
