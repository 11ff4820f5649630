use Rattle.object_lock.specs.Kept.{slot_has, slot_keeps}
use Rattle.c0far_headline.proofs.Tables.{of_threads}
use Rattle.c0far_headline.proofs.headline_of_threads.Goals as goal

pub returns : goal.returns
returns g c n = of_threads (slot_keeps g.S.RawStore.fits g.S.RawStore.content n) (slot_has g.S.RawStore.fits n) g.S.RawStore.honest g.S.RawStore.reliable (c.runs_are_seats.ensures n) (c.headline_of_tables.ensures n)
