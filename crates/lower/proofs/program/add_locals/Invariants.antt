use Rattle.std.proofs.Common.{◌≡◌, ◌++◌, map, drop}
use Rattle.lower_expressions.specs.Building.{kind_at}
use Rattle.lower.proofs.program.add_locals.Given as goal

-- what is there, and then those of the rest
abbrev pub invariant-loop-ty : goal.invariant-loop-ty
invariant-loop-ty l = l.fn.kinds.items ++ map (kind_at l.context) l.types ≡ l.kinds.items ++ map (kind_at l.context) (drop l.ty-index l.types)
