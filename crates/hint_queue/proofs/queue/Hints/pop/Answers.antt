use Rattle.hint_queue.proofs.Keeps.{learns, pops}
use Rattle.hint_queue.proofs.queue.Hints.pop.Goals as goal

pub pop_as-requires-clause-rule : goal.pop_as-requires-clause-rule
pop_as-requires-clause-rule g c = (pops _ _, learns _ _)
