use Rattle.mover_events.proofs.Placed.{rounds_placed}
use Rattle.mover_events.proofs.rounds_are_in_the_list.Goals as goal

pub returns : goal.returns
returns g c z j steps t did narrow low follows runs own is made = rounds_placed g.S.RawStore.reliable g.S.RawStore.honest z j steps t did narrow low follows runs own is made
