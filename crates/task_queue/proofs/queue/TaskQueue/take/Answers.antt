use Rattle.task_queue.proofs.Keeps.{learns, pops}
use Rattle.task_queue.proofs.queue.TaskQueue.take.Goals as goal

pub pop_as-requires-clause-rule : goal.pop_as-requires-clause-rule
pop_as-requires-clause-rule g c = (pops _ _, learns _ _)
