use Rattle.std.proofs.Common.{◌+◌, ◌-◌, ◌≤◌, length}
use Rattle.file_store.proofs.disk.fill.Given as goal

abbrev pub invariant-fill : goal.invariant-fill
invariant-fill g l = (l.count ≤ length l.bytes) × (l.interrupted ≤ 1000000)

abbrev pub decreases-fill : goal.decreases-fill
decreases-fill g l = (length l.initial.bytes - l.count) + (1000000 - l.interrupted)
