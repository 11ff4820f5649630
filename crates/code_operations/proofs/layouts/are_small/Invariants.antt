use Rattle.std.proofs.Common.{◌≡◌, drop}
use Rattle.std.specs.Prelude.{map}
use Rattle.code_operations.specs.Layouts.{are_small}
use Rattle.code_operations.proofs.layouts.are_small.Given as goal

abbrev pub invariant-loop-layout : goal.invariant-loop-layout
invariant-loop-layout l = are_small (map (λ k. k.items) l.layouts) ≡ are_small (map (λ k. k.items) (drop l.layout-index l.layouts))
