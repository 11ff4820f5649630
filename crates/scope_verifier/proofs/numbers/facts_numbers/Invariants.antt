use Rattle.std.proofs.Common.{◌≡◌, drop}
use Rattle.code_form.specs.Form.{function_of}
use Rattle.scope_verifier_laws.specs.First.{first_in}
use Rattle.scope_verifier_laws.specs.Numbers.{fact_numbers}
use Rattle.scope_verifier.proofs.numbers.facts_numbers.Given as goal

abbrev pub invariant-loop-fact : goal.invariant-loop-fact
invariant-loop-fact l = first_in (fact_numbers (function_of l.function)) l.facts ≡ first_in (fact_numbers (function_of l.function)) (drop l.fact-index l.facts)
