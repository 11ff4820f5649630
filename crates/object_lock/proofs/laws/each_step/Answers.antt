use Rattle.object_lock.specs.Kept.{slot_keeps, slot_has}
use Rattle.object_lock.proofs.Stored.{stored}
use Rattle.object_lock.proofs.Owner.{opens_on, closes_on, clears_on, peeks_on}
use Rattle.object_lock.proofs.Mover.{begins_on, marks_on, commits_on, aborts_on, retreats_on, arrives_on}
use Rattle.object_lock.proofs.Clean.{leaves_on}
use Rattle.object_lock.proofs.Own.{arrives_own_on, begins_own_on}
use Rattle.object_lock.proofs.Frames.{claims_on, unclaims_on, releases_on, fills_on, copies_on, loads_on, stores_on, looks_on}
use Rattle.object_lock.proofs.laws.each_step.Goals as goal

pub returns : goal.returns
returns g c = λ n. record {
  opens = λ z. opens_on (slot_keeps g.S.RawStore.fits g.S.RawStore.content n) (slot_has g.S.RawStore.fits n) g.S.RawStore.honest z;
  closes = λ z. closes_on (slot_keeps g.S.RawStore.fits g.S.RawStore.content n) (slot_has g.S.RawStore.fits n) g.S.RawStore.honest z;
  clears = λ z. clears_on (slot_keeps g.S.RawStore.fits g.S.RawStore.content n) (slot_has g.S.RawStore.fits n) g.S.RawStore.honest z (stored g.S.RawStore.fits g.S.RawStore.content n);
  loads = λ z. loads_on (slot_keeps g.S.RawStore.fits g.S.RawStore.content n) (slot_has g.S.RawStore.fits n) g.S.RawStore.honest z;
  stores = λ z. stores_on (slot_keeps g.S.RawStore.fits g.S.RawStore.content n) (slot_has g.S.RawStore.fits n) g.S.RawStore.honest z;
  peeks = λ z. peeks_on (slot_keeps g.S.RawStore.fits g.S.RawStore.content n) (slot_has g.S.RawStore.fits n) g.S.RawStore.honest z;
  looks = λ z. looks_on (slot_keeps g.S.RawStore.fits g.S.RawStore.content n) (slot_has g.S.RawStore.fits n) g.S.RawStore.honest z;
  begins = λ z. begins_on (slot_keeps g.S.RawStore.fits g.S.RawStore.content n) (slot_has g.S.RawStore.fits n) g.S.RawStore.honest z;
  begins_own = λ z. begins_own_on (slot_keeps g.S.RawStore.fits g.S.RawStore.content n) (slot_has g.S.RawStore.fits n) g.S.RawStore.honest z;
  claims = λ z. claims_on (slot_keeps g.S.RawStore.fits g.S.RawStore.content n) (slot_has g.S.RawStore.fits n) g.S.RawStore.honest z;
  fills = λ z. fills_on (slot_keeps g.S.RawStore.fits g.S.RawStore.content n) (slot_has g.S.RawStore.fits n) g.S.RawStore.honest z;
  arrives = λ z. arrives_on (slot_keeps g.S.RawStore.fits g.S.RawStore.content n) (slot_has g.S.RawStore.fits n) g.S.RawStore.honest z;
  arrives_own = λ z. arrives_own_on (slot_keeps g.S.RawStore.fits g.S.RawStore.content n) (slot_has g.S.RawStore.fits n) g.S.RawStore.honest z;
  marks = λ z. marks_on (slot_keeps g.S.RawStore.fits g.S.RawStore.content n) (slot_has g.S.RawStore.fits n) g.S.RawStore.honest z (stored g.S.RawStore.fits g.S.RawStore.content n);
  copies = λ z. copies_on (slot_keeps g.S.RawStore.fits g.S.RawStore.content n) (slot_has g.S.RawStore.fits n) g.S.RawStore.honest z;
  commits = λ z. commits_on (slot_keeps g.S.RawStore.fits g.S.RawStore.content n) (slot_has g.S.RawStore.fits n) g.S.RawStore.honest z;
  leaves = λ z. leaves_on (slot_keeps g.S.RawStore.fits g.S.RawStore.content n) (slot_has g.S.RawStore.fits n) g.S.RawStore.honest z;
  aborts = λ z. aborts_on (slot_keeps g.S.RawStore.fits g.S.RawStore.content n) (slot_has g.S.RawStore.fits n) g.S.RawStore.honest z;
  retreats = λ z. retreats_on (slot_keeps g.S.RawStore.fits g.S.RawStore.content n) (slot_has g.S.RawStore.fits n) g.S.RawStore.honest z;
  unclaims = λ z. unclaims_on (slot_keeps g.S.RawStore.fits g.S.RawStore.content n) (slot_has g.S.RawStore.fits n) g.S.RawStore.honest z;
  releases = λ z. releases_on (slot_keeps g.S.RawStore.fits g.S.RawStore.content n) (slot_has g.S.RawStore.fits n) g.S.RawStore.honest z;
}
