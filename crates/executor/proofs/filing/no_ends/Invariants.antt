use Rattle.std.proofs.Common.{◌≡◌, None, length}
use Rattle.std.specs.List.{All}
use Rattle.executor.proofs.filing.no_ends.Given as goal

-- so many places so far, with no end
abbrev pub invariant-loop-place : goal.invariant-loop-place
invariant-loop-place g l = (length l.places.items ≡ l._place) × All (λ p. p ≡ None) l.places.items
