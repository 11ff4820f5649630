use Rattle.object_lock.specs.Kept.{slot_keeps, slot_has}
use Rattle.object_lock.proofs.Reached.{all_parts}
use Rattle.object_lock.proofs.laws.one_list.Goals as goal

pub returns : goal.returns
returns g c = λ n. all_parts (slot_keeps g.S.RawStore.fits g.S.RawStore.content n) (slot_has g.S.RawStore.fits n) g.S.RawStore.honest
