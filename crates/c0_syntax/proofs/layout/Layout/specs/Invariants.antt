use Rattle.std.proofs.Common.{◌≡◌, ◌++◌, map, drop}
use Rattle.c0_syntax.specs.Layouts.{layout_specs}
use Rattle.c0_syntax.specs.Views.{spec_of}
use Rattle.c0_syntax.proofs.layout.Layout.specs.Given as goal

-- what is laid out, and what the other specs will add
abbrev pub invariant-loop-spec : goal.invariant-loop-spec
invariant-loop-spec l = l.self ++ layout_specs (map spec_of (drop l.spec-index l.specs)) ≡ l.initial.self ++ layout_specs (map spec_of l.specs)
