use Rattle.std.proofs.Common.{subst}
use Rattle.task_queue.specs.Queues.{QueueView}
use Rattle.executor.specs.Ends.{AreDone}
use Rattle.executor.proofs.workers.Worker.into_done.Goals as goal

pub returns : goal.returns
returns g c = subst (λ (q : QueueView). AreDone g.S.RawStore.honest g.S.RawStore.reliable q.roster c.self.inside.done.items) c.self.view_is c.self.invariant.ends
