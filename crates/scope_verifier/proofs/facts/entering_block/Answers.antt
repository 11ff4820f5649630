use Rattle.std.proofs.Common.{◌∙◌, Bool, ap, subst}
use Rattle.scope_verifier_laws.specs.Decided.{are_known}
use Rattle.scope_verifier_laws.specs.First.{unless}
use Rattle.scope_verifier_laws.specs.declared.fault.VerifyFault.TheVariants.{EntryFacts}
use Rattle.scope_verifier.specs.Answers.{Tells}
use Rattle.scope_verifier.proofs.facts.entering_block.Goals as goal

pub returns : goal.returns
returns c = λ R S k h. subst (λ (b : Bool). Tells c.unless.result (unless b EntryFacts)) (c.are_known.ensures R S k h ∙ ap (are_known k) c.deref.ensures.value) c.unless.ensures
