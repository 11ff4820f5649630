use Rattle.std.proofs.Common.{◌≡◌, true, ◌++◌, map, drop}
use Rattle.c0_syntax.specs.Layouts.{layout_parameters}
use Rattle.c0_syntax.specs.Views.{typed_name_of}
use Rattle.c0_syntax.proofs.layout.Layout.parameters.Given as goal

-- what is laid out, and what the other parameters will add
abbrev pub invariant-loop-parameter : goal.invariant-loop-parameter
invariant-loop-parameter l = l.self ++ layout_parameters l.first (map typed_name_of (drop l.parameter-index l.parameters)) ≡ l.initial.self ++ layout_parameters true (map typed_name_of l.parameters)
