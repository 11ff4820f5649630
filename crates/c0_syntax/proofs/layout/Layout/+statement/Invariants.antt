use Rattle.std.proofs.Common.{◌≡◌, ◌++◌, drop}
use Rattle.c0_syntax.specs.Layouts.{layout_statements}
use Rattle.c0_syntax.specs.Views.{statements_of}
use Rattle.c0_syntax.proofs.layout.Layout.+statement.Given as goal

-- what is laid out, and what the other statements will add
abbrev pub invariant-statements-loop-statement : goal.invariant-statements-loop-statement
invariant-statements-loop-statement l =
    l.self ++ layout_statements l.level (statements_of (drop l.statement-index l.statement-items)) ≡ l.initial.self ++ layout_statements l.level (statements_of l.statement-items)
