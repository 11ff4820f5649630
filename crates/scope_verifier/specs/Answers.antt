-- What an answer tells of a fault.
use Rattle.std.specs.Prelude.{◌≡◌, ◌⊎◌, MatchResult, Option, Some, None, Result}
use Rattle.scope_verifier_laws.specs.declared.fault.VerifyFault.{VerifyFault}
use Rattle.scope_verifier_laws.specs.declared.fault.VerifyFault.TheVariants.{OutOfMemory}

-- Ok where there is no fault, and else the fault
abbrev pub Tells : {T : Type 0} → Result T VerifyFault → Option VerifyFault → Type 0
Tells result o = MatchResult result (λ _. o ≡ None) (λ f. o ≡ Some f)

-- the same, or a want of memory
abbrev pub Finds : {T : Type 0} → Result T VerifyFault → Option VerifyFault → Type 0
Finds result o = MatchResult result (λ _. o ≡ None) (λ f. (f ≡ OutOfMemory) ⊎ (o ≡ Some f))
