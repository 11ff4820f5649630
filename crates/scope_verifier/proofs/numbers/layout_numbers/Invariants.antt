use Rattle.std.proofs.Common.{◌≡◌, drop}
use Rattle.scope_verifier_laws.specs.First.{first_in}
use Rattle.scope_verifier_laws.specs.Numbers.{cell_fault}
use Rattle.scope_verifier.proofs.numbers.layout_numbers.Given as goal

abbrev pub invariant-loop-kind : goal.invariant-loop-kind
invariant-loop-kind l = first_in (cell_fault l.count) l.cells ≡ first_in (cell_fault l.count) (drop l.kind-index l.cells)
