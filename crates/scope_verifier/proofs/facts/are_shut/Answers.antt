use Rattle.std.proofs.Common.{◌∙◌, ap, arith, sym}
use Rattle.scope_verifier_laws.specs.Decided.{is_shut}
use Rattle.scope_verifier.proofs.Steps.{not_all_shut}
use Rattle.scope_verifier.proofs.facts.are_shut.Goals as goal

pub returns-then-not-is_shut : goal.returns-then-not-is_shut
returns-then-not-is_shut c = λ R S k h. not_all_shut k c.args.scopes c.loop-scope.scope (omega arith) (sym (c.is_shut.ensures ∙ ap is_shut (c.scope.ensures R S k h)) ∙ c.if-not-is_shut.true)
