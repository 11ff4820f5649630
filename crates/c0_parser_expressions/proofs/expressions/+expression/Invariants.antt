use Rattle.std.proofs.Common.{◌≡◌, ◌*◌, ◌+◌, ◌-◌, ◌<◌, ◌≤◌, length}
use Rattle.c0_syntax.specs.Views.{expressions_of}
use Rattle.c0_grammar_laws.specs.ReadExpressions.{arguments, climb, postfix, read_expression, read_type}
use Rattle.c0_grammar_laws.specs.Places.{ExpressionStands, PlacedArguments, Position, after_each}
use Rattle.c0_parser_expressions.specs.Found.{found_expression}
use Rattle.c0_parser_expressions.proofs.ExpressionLoops.{with_front}
use Rattle.c0_parser_expressions.proofs.expressions.+expression.Given as goal

abbrev pub decreases-expression : goal.decreases-expression
decreases-expression l = 16 * l.depth + 9

abbrev pub decreases-operand : goal.decreases-operand
decreases-operand l = 16 * l.depth + 8

abbrev pub decreases-operators : goal.decreases-operators
decreases-operators l = 16 * l.depth + 8

abbrev pub decreases-prefixed : goal.decreases-prefixed
decreases-prefixed l = 16 * l.depth + 7

abbrev pub decreases-primary : goal.decreases-primary
decreases-primary l = 16 * l.depth + 7

abbrev pub decreases-postfixes : goal.decreases-postfixes
decreases-postfixes l = 16 * l.depth + 7

abbrev pub decreases-joined : goal.decreases-joined
decreases-joined l = 16 * l.depth + 7

abbrev pub decreases-binary : goal.decreases-binary
decreases-binary l = 16 * l.depth + 6

abbrev pub decreases-conditional : goal.decreases-conditional
decreases-conditional l = 16 * l.depth + 6

abbrev pub decreases-named : goal.decreases-named
decreases-named l = 16 * l.depth + 6

abbrev pub decreases-parenthesized : goal.decreases-parenthesized
decreases-parenthesized l = 16 * l.depth + 6

abbrev pub decreases-length_of : goal.decreases-length_of
decreases-length_of l = 16 * l.depth + 6

abbrev pub decreases-alloc_array_of : goal.decreases-alloc_array_of
decreases-alloc_array_of l = 16 * l.depth + 6

abbrev pub decreases-postfix : goal.decreases-postfix
decreases-postfix l = 16 * l.depth + 6

abbrev pub decreases-index : goal.decreases-index
decreases-index l = 16 * l.depth + 5

abbrev pub decreases-arguments : goal.decreases-arguments
decreases-arguments l = 16 * l.depth + 5

abbrev pub decreases-some_arguments : goal.decreases-some_arguments
decreases-some_arguments l = 16 * l.depth + 4

-- the arguments so far, with what is read from here on
abbrev pub invariant-some_arguments-loop-turn : goal.invariant-some_arguments-loop-turn
invariant-some_arguments-loop-turn l =
    (l.height < l.depth) × (with_front (expressions_of l.arguments.items) l.height (arguments l.types (read_expression l.types (l.depth - 1)) (read_type l.types (l.depth - 1)) (length l.fn.cursor.seen - l._turn) l.cursor.seen) ≡ arguments l.types (read_expression l.types (l.depth - 1)) (read_type l.types (l.depth - 1)) (length l.fn.cursor.seen) l.fn.cursor.seen)
    × (PlacedArguments l.fn.cursor.position l.arguments.items × (after_each (expressions_of l.arguments.items) l.fn.cursor.position ≡ l.cursor.position))

-- reading on from here gives what reading from the start gives
abbrev pub invariant-postfixes-loop-turn : goal.invariant-postfixes-loop-turn
invariant-postfixes-loop-turn l =
    (l.found.height ≤ l.depth) × (postfix l.types (read_expression l.types (l.depth - 1)) (read_type l.types (l.depth - 1)) l.depth (l.depth - l._turn) (found_expression l.cursor.seen l.found) ≡ postfix l.types (read_expression l.types (l.depth - 1)) (read_type l.types (l.depth - 1)) l.depth l.depth (found_expression l.fn.cursor.seen l.fn.found))
    × ((first : Position) → ExpressionStands first l.fn.found.expression l.fn.cursor.position → ExpressionStands first l.found.expression l.cursor.position)

-- ... likewise
abbrev pub invariant-operators-loop-turn : goal.invariant-operators-loop-turn
invariant-operators-loop-turn l =
    (l.found.height ≤ l.depth) × (climb l.types (read_expression l.types (l.depth - 1)) (read_type l.types (l.depth - 1)) l.depth l.least (l.depth - l._turn) (found_expression l.cursor.seen l.found) ≡ climb l.types (read_expression l.types (l.depth - 1)) (read_type l.types (l.depth - 1)) l.depth l.least l.depth (found_expression l.fn.cursor.seen l.fn.found))
    × ((first : Position) → ExpressionStands first l.fn.found.expression l.fn.cursor.position → ExpressionStands first l.found.expression l.cursor.position)
