use Rattle.std.proofs.Common.{ap}
use Rattle.task_queue.specs.declared.rule.KnowsRoster.{KnowsRoster}
use Rattle.task_queue.proofs.Keeps.{forks}
use Rattle.task_queue.proofs.queue.TaskQueue.another.Goals as goal

pub another-requires-clause-rule : goal.another-requires-clause-rule
another-requires-clause-rule g c = forks _ _ _ (ap (λ (k : KnowsRoster). k.roster) c.pass.invariant.1)
