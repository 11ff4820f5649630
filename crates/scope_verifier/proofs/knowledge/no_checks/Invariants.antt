use Rattle.std.proofs.Common.{◌≡◌, [], length}
use Rattle.std.specs.Prelude.{All}
use Rattle.scope_verifier.specs.Shown.{checks}
use Rattle.scope_verifier.proofs.knowledge.no_checks.Given as goal

abbrev pub invariant-loop-index : goal.invariant-loop-index
invariant-loop-index l = (length l.lists.items ≡ l._index) × All (λ xs. xs ≡ []) (checks l.lists.items)
