use Rattle.std.proofs.Common.{◌≡◌, true, ◌++◌, drop}
use Rattle.c0_syntax.specs.Layouts.{layout_arguments}
use Rattle.c0_syntax.specs.Views.{expressions_of}
use Rattle.c0_syntax.proofs.layout.Layout.+expression.Given as goal

-- what is laid out, and what the other arguments will add
abbrev pub invariant-arguments-loop-argument : goal.invariant-arguments-loop-argument
invariant-arguments-loop-argument l = l.self ++ layout_arguments l.first (expressions_of (drop l.argument-index l.argument-items)) ≡ l.initial.self ++ layout_arguments true (expressions_of l.argument-items)
