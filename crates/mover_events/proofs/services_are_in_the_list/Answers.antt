use Rattle.mover_events.proofs.Placed.{services_placed}
use Rattle.mover_events.proofs.services_are_in_the_list.Goals as goal

pub returns : goal.returns
returns g c z j steps t did sure follows runs own is served read = services_placed g.S.RawStore.reliable g.S.RawStore.honest z j steps t did sure follows runs own is served read
