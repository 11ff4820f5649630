use Rattle.c0_types.specs.DeclareViews.{elaboration_of}
use Rattle.c0_types.proofs.DeclarationSteps.{Left}
use Rattle.c0_types.proofs.declare.Elaborated.declarations.Given as goal

-- what is left to look at
abbrev pub invariant-loop-declaration : goal.invariant-loop-declaration
invariant-loop-declaration l = Left (elaboration_of l.texts l.initial.self) (elaboration_of l.texts l.self) l.declaration-index l.declarations
