use Rattle.object_lock.specs.Kept.{slot_keeps, slot_has}
use Rattle.object_lock.proofs.AtFirst.{new_table}
use Rattle.object_lock.proofs.laws.new_table.Goals as goal

pub returns : goal.returns
returns g c = λ n. new_table (slot_keeps g.S.RawStore.fits g.S.RawStore.content n) (slot_has g.S.RawStore.fits n) g.S.RawStore.honest
