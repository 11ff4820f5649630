use Rattle.mover_events.proofs.Lives.{all_rounds, all_served}
use Rattle.mover_events.proofs.lives_are_events.Goals as goal

pub returns : goal.returns
returns g c z m did = (λ made. all_rounds g.S.RawStore.reliable z m did made, λ served. all_served g.S.RawStore.reliable z m did served)
