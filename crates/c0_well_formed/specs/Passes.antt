-- What the passes over scoped code give, and that its image is accepted.
use Rattle.std.specs.Prelude.{◌≡◌, ℕ, Bool, List, [], ◌∷◌, None}
use Rattle.c0_typed.specs.Typing.{FitsProgram}
use Rattle.c0_typed.specs.Views.{program_of}
use Rattle.c0_typed.specs.declared.tree.Typed.{Typed}
use Rattle.lower_tables.specs.Gathered.{singles_of}
use Rattle.lower.specs.Lowered.{lowered}
use Rattle.middle_form.specs.Scoped.{Program}
use Rattle.scope_placement.specs.Placed.{placed_program}
use Rattle.guard_hoisting.specs.Hoisted.{hoisted_program}
use Rattle.prefetch_pass.specs.Prefetched.{prefetched_program}
use Rattle.codegen.specs.Generated.{generated}
use Rattle.code_verification.specs.Verified.{IsVerified}
use Rattle.scope_verifier_laws.specs.Faults.{fault_of}

-- a pass over scoped code: the scopes of loops are opened before them, or hints are set, for pieces of so many cells
pub data Pass : Type 0 where
  Hoist : Pass
  Prefetch : ℕ → Pass

-- a program behind passes, in this order
abbrev pub behind : List Pass → Program → Program
behind [] P = P
behind (Hoist ∷ rest) P = behind rest (hoisted_program P)
behind (Prefetch pieces ∷ rest) P = behind rest (prefetched_program pieces P)

-- the image of the code of a well-typed program, with its scopes placed and behind any passes, is verified and has no fault
abbrev pub PassesAreAccepted : Type 0
PassesAreAccepted =
    (checks : Bool) (cells : ℕ) (typed : Typed) (passes : List Pass) → FitsProgram (program_of typed)
    → let C = generated cells (behind passes (placed_program (lowered (singles_of typed) checks typed))) in IsVerified C × (fault_of C ≡ None)
