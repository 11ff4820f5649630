use Rattle.std.proofs.Common.{◌≡◌, ℕ, true}
use Rattle.code_form.specs.Known.{Known}
use Rattle.scope_verifier_laws.specs.Decided.{are_shut}
use Rattle.scope_verifier.specs.Shown.{Shows}
use Rattle.scope_verifier.proofs.facts.are_shut.Given as goal

abbrev pub invariant-loop-scope : goal.invariant-loop-scope
invariant-loop-scope l = (R S : ℕ) (k : Known) → Shows R S l.known k → are_shut k l.scope ≡ true
