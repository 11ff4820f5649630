use Rattle.executor.proofs.Working.{one_more}
use Rattle.executor.proofs.workers.turns.Goals as goal

pub returns-in_default : goal.returns-in_default
returns-in_default g c = one_more c.args.quantum c.args.task.now c.loop.task c.turn.new.self c.turn.result c.loop.invariant.2 c.turn.ensures.turned
