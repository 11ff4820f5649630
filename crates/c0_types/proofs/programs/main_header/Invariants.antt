use Rattle.c0_types.proofs.MainSteps.{MainLeft}
use Rattle.c0_types.proofs.programs.main_header.Given as goal

-- what is left to look at
abbrev pub invariant-loop-declaration : goal.invariant-loop-declaration
invariant-loop-declaration l = MainLeft l.declaration-index l.declarations
