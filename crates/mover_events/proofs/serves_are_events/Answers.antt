use Rattle.mover_events.proofs.Serving.{given_up, released, served}
use Rattle.mover_events.proofs.serves_are_events.Goals as goal

pub returns : goal.returns
returns c n m o f x words filled h = (given_up n m o x words h, released n m o f x words h, served n m o f x words filled h)
