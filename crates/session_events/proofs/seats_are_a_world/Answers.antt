use Rattle.object_lock.specs.Kept.{slot_has, slot_keeps}
use Rattle.session_events.proofs.Seats.{seats_are}
use Rattle.session_events.proofs.seats_are_a_world.Goals as goal

pub returns : goal.returns
returns g c n = seats_are (slot_keeps g.S.RawStore.fits g.S.RawStore.content n) (slot_has g.S.RawStore.fits n) g.S.RawStore.honest g.S.RawStore.reliable
