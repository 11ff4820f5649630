use Rattle.std.proofs.Common.{◌≡◌, drop, map}
use Rattle.scope_verifier_laws.specs.First.{first_in}
use Rattle.scope_verifier_laws.specs.Numbers.{layout_fault}
use Rattle.scope_verifier.proofs.numbers.layouts_numbers.Given as goal

abbrev pub invariant-loop-layout : goal.invariant-loop-layout
invariant-loop-layout l = first_in (layout_fault l.count) (map (λ x. x.items) l.layouts) ≡ first_in (layout_fault l.count) (map (λ x. x.items) (drop l.layout-index l.layouts))
