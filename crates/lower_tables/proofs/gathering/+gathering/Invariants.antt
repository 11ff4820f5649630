use Rattle.std.proofs.Common.{◌≡◌, ◌+◌, ◌*◌, ◌<◌, ◌^◌, length, drop}
use Rattle.lower_tables.specs.Gathered.{all_learned, types_in_all}
use Rattle.lower_tables.proofs.CodeSizes.{size, size_list, size_place}
use Rattle.lower_tables.proofs.gathering.+gathering.Given as goal

abbrev pub decreases-from_expression : goal.decreases-from_expression
decreases-from_expression l = 2 * size l.whole.now

abbrev pub decreases-from_two : goal.decreases-from_two
decreases-from_two l = 1 + 2 * (size l.left.now + size l.right.now)

abbrev pub decreases-from_expressions : goal.decreases-from_expressions
decreases-from_expressions l = 2 * size_list l.all.now

abbrev pub decreases-from_place : goal.decreases-from_place
decreases-from_place l = 2 * size_place l.place.now

-- what is learned, and then from the rest
abbrev pub invariant-from_expressions-loop-part : goal.invariant-from_expressions-loop-part
invariant-from_expressions-loop-part l =
    (l.structs + length l.singles + 1 < 2 ^ 32)
    × (all_learned l.structs l.fn.singles (types_in_all l.all) ≡ all_learned l.structs l.singles (types_in_all (drop l.part-index l.all)))
