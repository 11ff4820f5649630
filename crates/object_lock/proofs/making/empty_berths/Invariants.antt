use Rattle.std.proofs.Common.{◌≡◌, ℕ, ◌+◌, ◌-◌, ◌<◌, ◌≤◌, [], length}
use mathlib.Core.Option.{some}
use lib.ListN.{get_elem?}
use Rattle.object_lock.specs.Kept.{slot_keeps}
use Rattle.object_lock.proofs.making.empty_berths.Given as goal

abbrev pub invariant-loop-alloc : goal.invariant-loop-alloc
invariant-loop-alloc g l = (length l.slots.items ≤ l.objects) × ((o : ℕ) → o < length l.slots.items → (b : _) × (get_elem? l.slots.items o ≡ some b) × ((n : ℕ) → g.S.RawStore.makes l.store (n + 3) → slot_keeps g.S.RawStore.fits g.S.RawStore.content n b o []))

abbrev pub decreases-loop-alloc : goal.decreases-loop-alloc
decreases-loop-alloc g l = l.objects - length l.slots.items
