use Rattle.session_events.proofs.Instructions.{all}
use Rattle.session_events.proofs.instructions_are_events.Goals as goal

pub returns : goal.returns
returns g c = λ s t p. all g.S.RawStore.honest p.0 s t p.1
