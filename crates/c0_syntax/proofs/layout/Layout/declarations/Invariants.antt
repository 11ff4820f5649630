use Rattle.std.proofs.Common.{◌≡◌, ◌++◌, map, drop}
use Rattle.c0_syntax.specs.declared.mark.Gap.TheVariants as g
use Rattle.c0_syntax.specs.Layouts.{layout_program}
use Rattle.c0_syntax.specs.Views.{declaration_of}
use Rattle.c0_syntax.proofs.layout.Layout.declarations.Given as goal

-- what is laid out, and what the other declarations will add
abbrev pub invariant-loop-declaration : goal.invariant-loop-declaration
invariant-loop-declaration l = l.self ++ layout_program l.gap (map declaration_of (drop l.declaration-index l.declarations)) ≡ l.initial.self ++ layout_program g.Touching (map declaration_of l.declarations)
