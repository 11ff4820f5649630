use Rattle.std.proofs.Common.{◌≡◌, ◌+◌, ◌*◌, ◌<◌, ◌^◌, length, drop}
use Rattle.lower_tables.specs.Gathered.{all_learned, types_of_all}
use Rattle.lower_tables.proofs.CodeSizes.{size_body, size_statement}
use Rattle.lower_tables.proofs.gathering.+gathering_statements.Given as goal

abbrev pub decreases-from_statement : goal.decreases-from_statement
decreases-from_statement l = 2 * size_statement l.whole.now

abbrev pub decreases-from_statements : goal.decreases-from_statements
decreases-from_statements l = 2 * size_body l.all.now

-- what is learned, and then from the rest
abbrev pub invariant-from_statements-loop-part : goal.invariant-from_statements-loop-part
invariant-from_statements-loop-part l =
    (l.structs + length l.singles + 1 < 2 ^ 32)
    × (all_learned l.structs l.fn.singles (types_of_all l.all) ≡ all_learned l.structs l.singles (types_of_all (drop l.part-index l.all)))
