use Rattle.std.proofs.Common.{◌≡◌, ℕ, drop}
use Rattle.code_form.specs.Known.{Known}
use Rattle.scope_verifier_laws.specs.Decided.{are_known}
use Rattle.scope_verifier.specs.Shown.{Shows}
use Rattle.scope_verifier.proofs.facts.are_known.Given as goal

abbrev pub invariant-loop-fact : goal.invariant-loop-fact
invariant-loop-fact l = (R S : ℕ) (k : Known) → Shows R S l.known k → are_known k l.facts ≡ are_known k (drop l.fact-index l.facts)
