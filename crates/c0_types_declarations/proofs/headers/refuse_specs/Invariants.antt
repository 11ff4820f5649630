use Rattle.c0_types_declarations.proofs.HeaderLists.{SpecsLeft}
use Rattle.c0_types_declarations.proofs.headers.refuse_specs.Given as goal

-- what is left to look at
abbrev pub invariant-loop-annotation : goal.invariant-loop-annotation
invariant-loop-annotation l = SpecsLeft l.annotation-index l.annotations
