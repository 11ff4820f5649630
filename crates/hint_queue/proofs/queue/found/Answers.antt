use Rattle.std.proofs.Common.{rules}
use Rattle.hint_queue.proofs.Keeps.{begins, forks, founds, pops}
use Rattle.hint_queue.proofs.queue.found.Goals as goal

pub ruled-requires-clause-rule : goal.ruled-requires-clause-rule
ruled-requires-clause-rule c = begins

pub try_push_as-requires-clause-rule : goal.try_push_as-requires-clause-rule
try_push_as-requires-clause-rule c = founds _ _ _ _ (search rules)

pub try_pop_as-requires-clause-rule : goal.try_pop_as-requires-clause-rule
try_pop_as-requires-clause-rule c = pops _ _

pub another-pass-requires-clause-rule : goal.another-pass-requires-clause-rule
another-pass-requires-clause-rule c = forks _ _
