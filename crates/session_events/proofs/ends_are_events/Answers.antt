use Rattle.session_events.proofs.Told.{told}
use Rattle.session_events.proofs.ends_are_events.Goals as goal

pub returns : goal.returns
returns g c = λ w C f is. told g.S.RawStore.reliable w C f is
