use Rattle.mover_events.proofs.Parts.{parts_are}
use Rattle.mover_events.proofs.parts_are_steps.Goals as goal

pub returns : goal.returns
returns g c z j steps x t inv follows runs own = parts_are g.S.RawStore.honest z j steps x t inv follows runs own
