use Rattle.mover_events.proofs.Visiting.{by_rounds}
use Rattle.mover_events.proofs.rounds_are_events.Goals as goal

pub returns : goal.returns
returns c z m x before after r h e v = by_rounds z m x before after r h e v
