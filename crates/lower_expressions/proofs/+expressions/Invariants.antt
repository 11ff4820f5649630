use Rattle.std.proofs.Common.{◌≡◌, ◌++◌, ◌+◌, ◌*◌, ℕ, length, drop}
use Rattle.lower_expressions.specs.Building.{codes, list_at, list_code, list_kinds}
use Rattle.lower_tables.proofs.CodeSizes.{size, size_list, size_place}
use Rattle.lower_expressions.proofs.+expressions.Given as goal

abbrev pub decreases-expression_code::expression : goal.decreases-expression_code::expression
decreases-expression_code::expression l = 3 * size l.whole.now

abbrev pub decreases-expression_code::unary : goal.decreases-expression_code::unary
decreases-expression_code::unary l = 2 + 3 * size l.operand.now.value

abbrev pub decreases-expression_code::binary : goal.decreases-expression_code::binary
decreases-expression_code::binary l = 2 + 3 * (size l.left.now.value + size l.right.now.value)

abbrev pub decreases-expression_code::compare : goal.decreases-expression_code::compare
decreases-expression_code::compare l = 2 + 3 * (size l.left.now.value + size l.right.now.value)

abbrev pub decreases-expression_code::conjunction : goal.decreases-expression_code::conjunction
decreases-expression_code::conjunction l = 2 + 3 * (size l.left.now.value + size l.right.now.value)

abbrev pub decreases-expression_code::disjunction : goal.decreases-expression_code::disjunction
decreases-expression_code::disjunction l = 2 + 3 * (size l.left.now.value + size l.right.now.value)

abbrev pub decreases-expression_code::choice : goal.decreases-expression_code::choice
decreases-expression_code::choice l = 2 + 3 * (size l.condition.now.value + size l.first.now.value + size l.second.now.value)

abbrev pub decreases-expression_code::call : goal.decreases-expression_code::call
decreases-expression_code::call l = 2 + 3 * size_list l.given.now.items

abbrev pub decreases-expression_code::print : goal.decreases-expression_code::print
decreases-expression_code::print l = 2 + 3 * size_list l.given.now.items

abbrev pub decreases-expression_code::load : goal.decreases-expression_code::load
decreases-expression_code::load l = 2 + 3 * size_place l.from.now.value

abbrev pub decreases-expression_code::allocate_array : goal.decreases-expression_code::allocate_array
decreases-expression_code::allocate_array l = 2 + 3 * size l.count.now.value

abbrev pub decreases-expression_code::array_length : goal.decreases-expression_code::array_length
decreases-expression_code::array_length l = 2 + 3 * size l.array.now.value

abbrev pub decreases-expression_code::operands : goal.decreases-expression_code::operands
decreases-expression_code::operands l = 1 + 3 * (size l.left.now + size l.right.now)

abbrev pub decreases-expression_code::branch : goal.decreases-expression_code::branch
decreases-expression_code::branch l = 1 + 3 * size l.whole.now

abbrev pub decreases-expression_code::arguments : goal.decreases-expression_code::arguments
decreases-expression_code::arguments l = 3 * size_list l.given.now

abbrev pub decreases-place_code::place : goal.decreases-place_code::place
decreases-place_code::place l = 3 * size_place l.whole.now

-- what is there, and then what the rest adds
abbrev pub invariant-expression_code::arguments-loop-argument : goal.invariant-expression_code::arguments-loop-argument
invariant-expression_code::arguments-loop-argument l =
    (list_at l.context l.given (length l.fn.kinds.items) ≡ l.registers.items ++ list_at l.context (drop l.argument-index l.given) (length l.kinds.items))
    × (l.fn.kinds.items ++ list_kinds l.context l.given ≡ l.kinds.items ++ list_kinds l.context (drop l.argument-index l.given))
    × (codes l.fn.code.items ++ list_code l.context l.given (length l.fn.kinds.items) ≡ codes l.code.items ++ list_code l.context (drop l.argument-index l.given) (length l.kinds.items))
