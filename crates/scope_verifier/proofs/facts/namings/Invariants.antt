use Rattle.std.proofs.Common.{◌≡◌, drop}
use Rattle.code_form.specs.Form.{function_of}
use Rattle.scope_verifier_laws.specs.First.{first_in}
use Rattle.scope_verifier_laws.specs.Faults.{naming_fault}
use Rattle.scope_verifier.proofs.facts.namings.Given as goal

abbrev pub invariant-loop-fact : goal.invariant-loop-fact
invariant-loop-fact l = first_in (naming_fault (function_of l.function)) l.facts ≡ first_in (naming_fault (function_of l.function)) (drop l.fact-index l.facts)
