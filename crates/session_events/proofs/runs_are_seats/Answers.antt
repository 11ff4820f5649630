use Rattle.object_lock.specs.Kept.{slot_has, slot_keeps}
use Rattle.session_events.proofs.Together.{runs_are}
use Rattle.session_events.proofs.runs_are_seats.Goals as goal

pub returns : goal.returns
returns g c n = runs_are (slot_keeps g.S.RawStore.fits g.S.RawStore.content n) (slot_has g.S.RawStore.fits n) g.S.RawStore.honest g.S.RawStore.reliable
