use Rattle.std.proofs.Common.{rules, subst, sym}
use Rattle.task_queue.specs.Tasked.{IsTask}
use Rattle.task_queue.proofs.Keeps.{begins, founds}
use Rattle.task_queue.proofs.queue.TaskQueue.new.Goals as goal

pub ruled-requires-clause-rule : goal.ruled-requires-clause-rule
ruled-requires-clause-rule g c = begins

pub try_push_as-requires-clause-rule : goal.try_push_as-requires-clause-rule
try_push_as-requires-clause-rule g c = founds _ _ _ _ (search rules) (subst (λ m. IsTask m c.args.task) (sym c.requires.of) c.requires)
