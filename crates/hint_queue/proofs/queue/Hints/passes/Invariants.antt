use Rattle.std.proofs.Common.{◌≡◌, length}
use Rattle.std.specs.List.{All}
use Rattle.hint_queue.proofs.queue.Hints.passes.Given as goal

-- each pass so far is of this queue
abbrev pub invariant-loop-made : goal.invariant-loop-made
invariant-loop-made l = (l.first ≡ l.self) × (length l.passes.items ≡ l._made) × All (λ p. p ≡ l.self) l.passes.items
