-- What holds of the causes of faults in every program.
use Rattle.std.specs.Prelude.{◌≡◌, List, [], ◌∷◌, None}
use Rattle.c0_source.specs.declared.fault.Fault.{Fault}
use Rattle.c0_source.specs.FaultNumbers.{fault_number}
use Rattle.c0_syntax.specs.declared.program.Program.{Program}
use Rattle.c0_syntax.specs.Views.{program_of}
use Rattle.c0_rules.specs.Programs.{typed_program}
use Rattle.c0_rules.specs.FaultPrograms.{FaultAt}
use Rattle.c0_rules.specs.WorkedPairs.{Pair, pairs}

-- a program in which a fault has its cause is not well typed
abbrev pub CausesRefuse : Type 0
CausesRefuse = (program : Program) (fault : Fault) → FaultAt program fault → typed_program (program_of program) ≡ None

-- in a program that is not well typed some fault has its cause
abbrev pub RefusalsAreCaused : Type 0
RefusalsAreCaused = (program : Program) → typed_program (program_of program) ≡ None → (fault : Fault) × FaultAt program fault

-- wherever the tokens of the refused program of a pair stand, a fault of the pair's number has its cause there, at its place
abbrev pub IsCaused : Pair → Type 0
IsCaused p = (program : Program) → program_of program ≡ p.refused → (fault : Fault) × (fault_number fault.kind ≡ p.number) × FaultAt program fault

-- the same of each of these pairs
abbrev pub AreCaused : List Pair → Type 0
AreCaused [] = Unit {0}
AreCaused (p ∷ ps) = IsCaused p × AreCaused ps

-- the refused program of each worked pair is refused for the fault whose number the pair has
abbrev pub WorkedAreCaused : Type 0
WorkedAreCaused = AreCaused pairs
