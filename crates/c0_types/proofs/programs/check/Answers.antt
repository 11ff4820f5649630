use Rattle.std.proofs.Common.{◌≡◌, ◌⊎◌, inl, inr, ap, subst, sym}
use Rattle.c0_source.specs.declared.fault.Fault.{Fault}
use Rattle.c0_source.specs.declared.fault.FaultKind.TheVariants.{OutOfMemory}
use Rattle.c0_rules.specs.FaultPrograms.{FaultAt}
use Rattle.c0_types.proofs.programs.check.Goals as goal

pub returns-clause-cause : goal.returns-clause-cause
returns-clause-cause c = elim c.told.ensures [
  | inl e ↦ inl (ap (λ (f : Fault). f.kind) e.1)
  | inr e ↦ subst (λ (f : Fault). (f.kind ≡ OutOfMemory) ⊎ FaultAt c.args.program f) (sym e.1) c.in-Err.ensures.cause
]
