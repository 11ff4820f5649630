use Rattle.std.proofs.Common.{◌≡◌, ◌++◌, ◌+◌, ◌*◌, ℕ, length, drop}
use Rattle.lower.specs.Building.{block_code, body_kinds}
use Rattle.lower_expressions.specs.Building.{codes}
use Rattle.lower_tables.proofs.CodeSizes.{size_body, size_statement}
use Rattle.lower.proofs.statement_code.+statements.Given as goal

abbrev pub decreases-statement : goal.decreases-statement
decreases-statement l = 4 * size_statement l.whole.now

abbrev pub decreases-choice : goal.decreases-choice
decreases-choice l = 2 + 4 * (size_statement l.first.now.value + size_statement l.second.now.value)

abbrev pub decreases-branch : goal.decreases-branch
decreases-branch l = 1 + 4 * size_statement l.whole.now

abbrev pub decreases-body_of : goal.decreases-body_of
decreases-body_of l = 2 + 4 * size_statement l.body.now

abbrev pub decreases-repeat : goal.decreases-repeat
decreases-repeat l = 3 + 4 * (size_statement l.body.now.value + size_statement l.step.now.value)

abbrev pub decreases-statements : goal.decreases-statements
decreases-statements l = 4 * size_body l.all.now

-- what is there, and then what the rest adds
abbrev pub invariant-statements-loop-part : goal.invariant-statements-loop-part
invariant-statements-loop-part l =
    (l.fn.kinds.items ++ body_kinds l.context l.all ≡ l.kinds.items ++ body_kinds l.context (drop l.part-index l.all))
    × (codes l.fn.code.items ++ block_code l.context l.all (length l.fn.kinds.items) l.out ≡ codes l.code.items ++ block_code l.context (drop l.part-index l.all) (length l.kinds.items) l.out)
