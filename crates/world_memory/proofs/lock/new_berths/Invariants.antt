use Rattle.std.proofs.Common.{ℕ, ◌-◌, ◌≤◌, length}
use Rattle.pointer_word.specs.Machine.{Never}
use Rattle.world_memory.specs.Berths.{DoFit}
use Rattle.world_memory.specs.Shown.{AreFar}
use Rattle.world_memory.proofs.lock.new_berths.Given as goal

abbrev pub invariant-loop-alloc : goal.invariant-loop-alloc
invariant-loop-alloc g l =
    (length l.berths.items ≤ l.objects) × ((n : ℕ) → AreFar g.S.RawStore.content n l.berths.items (λ _. Never)) × ((n : ℕ) → g.S.RawStore.makes l.store n → DoFit g.S.RawStore.fits l.berths.items n)

abbrev pub decreases-loop-alloc : goal.decreases-loop-alloc
decreases-loop-alloc g l = l.objects - length l.berths.items
