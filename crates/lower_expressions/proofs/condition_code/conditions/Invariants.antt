use Rattle.std.proofs.Common.{◌≡◌, ◌++◌, length, drop}
use Rattle.lower_expressions.specs.Building.{codes, conditions_code, conditions_kinds}
use Rattle.lower_expressions.proofs.condition_code.conditions.Given as goal

-- what is there, and then what the rest adds
abbrev pub invariant-loop-condition : goal.invariant-loop-condition
invariant-loop-condition l =
    (l.fn.kinds.items ++ conditions_kinds l.context l.all ≡ l.kinds.items ++ conditions_kinds l.context (drop l.condition-index l.all))
    × (codes l.fn.code.items ++ conditions_code l.context l.all (length l.fn.kinds.items) ≡ codes l.code.items ++ conditions_code l.context (drop l.condition-index l.all) (length l.kinds.items))
