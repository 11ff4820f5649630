use Rattle.std.proofs.Common.{◌≡◌, ◌++◌, ◌-◌}
use Rattle.std.specs.String.{string_bytes}
use Rattle.c0_syntax.specs.Printing.{indentation}
use Rattle.c0_syntax.proofs.render.push_line.Given as goal

-- what is written, and what the other levels will add
abbrev pub invariant-loop-turn : goal.invariant-loop-turn
invariant-loop-turn l = string_bytes l.text ++ indentation (l.level - l._turn) ≡ string_bytes l.initial.text ++ indentation l.level
