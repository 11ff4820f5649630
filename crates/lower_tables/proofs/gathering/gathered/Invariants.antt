use Rattle.std.proofs.Common.{◌≡◌, ◌+◌, ◌<◌, ◌^◌, [], length, drop}
use Rattle.lower_tables.specs.Gathered.{all_learned, types_of_functions}
use Rattle.lower_tables.proofs.gathering.gathered.Given as goal

-- what is learned, and then from the rest
abbrev pub invariant-loop-function : goal.invariant-loop-function
invariant-loop-function l =
    (l.structs + length l.singles + 1 < 2 ^ 32)
    × (all_learned l.structs [] (types_of_functions l.typed.functions.items) ≡ all_learned l.structs l.singles (types_of_functions (drop l.function-index l.typed.functions.items)))
