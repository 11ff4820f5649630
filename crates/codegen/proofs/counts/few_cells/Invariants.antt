use Rattle.std.proofs.Common.{◌≡◌, drop, map}
use Rattle.std.specs.List.{list_all}
use Rattle.code_form.specs.Counts.{is_few}
use Rattle.codegen.proofs.counts.few_cells.Given as goal

abbrev pub invariant-loop-layout : goal.invariant-loop-layout
invariant-loop-layout l = list_all is_few (map (λ k. k.items) l.layouts) ≡ list_all is_few (map (λ k. k.items) (drop l.layout-index l.layouts))
