-- Faults that are no want of memory.
use Rattle.std.proofs.Common.{◌≡◌, true, false, subst}
use denote.Enum.Bare.{sameb}
use Rattle.c0_source.specs.declared.fault.FaultKind.{FaultKind}
use Rattle.c0_source.specs.declared.fault.FaultKind.TheVariants.{OutOfMemory}
use Rattle.c0_source.specs.contracts.fault.FaultKind.{the_type}

-- a kind that a test told from want of memory is another
pub told_apart : (k : FaultKind) → false ≡ sameb the_type k OutOfMemory → k ≡ OutOfMemory → ⊥
told_apart k differs is =
    let P : FaultKind → Type 0 = λ k. false ≡ sameb the_type k OutOfMemory in
    let same : false ≡ true = subst P is differs in
    cc
