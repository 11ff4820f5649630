use Rattle.std.proofs.Common.{rules}
use Rattle.hint_queue.proofs.Keeps.{learns, pushes}
use Rattle.hint_queue.proofs.queue.Hints.push.Goals as goal

pub push_as-requires-clause-rule : goal.push_as-requires-clause-rule
push_as-requires-clause-rule g c = (pushes _ _ _ c.pass.inside.objects _ c.pass.invariant.1 (search rules), learns _ _)
