use Rattle.std.proofs.Common.{◌≡◌, ℕ, ◌<◌, ◌≤◌, length, get_or}
use Rattle.c0_source.proofs.position.line_column.Given as goal

abbrev pub invariant-loop-start : goal.invariant-loop-start
invariant-loop-start l = record {
  before : l.start ≤ l.place;
  within : l.place ≤ length l.bytes;
  same : (i : ℕ) → l.start ≤ i → i < l.place → get_or l.bytes i 0 ≡ 10 → ⊥;
}

abbrev pub decreases-loop-start : goal.decreases-loop-start
decreases-loop-start l = l.start
