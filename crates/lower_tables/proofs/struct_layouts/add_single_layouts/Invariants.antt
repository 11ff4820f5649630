use Rattle.std.proofs.Common.{◌≡◌, ◌++◌, ◌∷◌, [], map, drop}
use Rattle.lower_tables.specs.Tables.{layouts_read}
use Rattle.lower_tables.proofs.struct_layouts.add_single_layouts.Given as goal

-- what is there, and then those of the rest
abbrev pub invariant-loop-kind : goal.invariant-loop-kind
invariant-loop-kind l =
    layouts_read l.fn.layouts.items ++ [] ∷ map (λ k. k ∷ []) l.kinds ≡ layouts_read l.layouts.items ++ map (λ k. k ∷ []) (drop l.kind-index l.kinds)
