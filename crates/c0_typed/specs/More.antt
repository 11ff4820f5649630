-- The law of more turns: they change nothing where the program has ended, and else print more.
use Rattle.std.specs.Prelude.{ℕ, ◌≤◌, Bool}
use Rattle.c0_typed.specs.Trees.{Program}
use Rattle.cells.specs.Outcomes.{KeepsEnd}
use Rattle.c0_typed.specs.Meaning.{mean}

-- more turns keep the end of a program, and what it printed is a beginning of what it prints
abbrev pub MoreTurnsExtend : Type 0
MoreTurnsExtend = (p : Program) (checks : Bool) (n m : ℕ) → n ≤ m → KeepsEnd (mean p checks n) (mean p checks m)
