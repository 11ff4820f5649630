use Rattle.mover_events.proofs.Notes.{notes_stay}
use Rattle.mover_events.proofs.owners_are_alone.Goals as goal

pub returns : goal.returns
returns g c z owner j steps x t inv follows runs own owners = notes_stay g.S.RawStore.honest z owner j steps x t inv follows runs own owners
