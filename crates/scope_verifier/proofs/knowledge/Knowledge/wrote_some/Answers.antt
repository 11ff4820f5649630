use Rattle.std.proofs.Common.{◌≡◌, ℕ, Option, sym, subst}
use Rattle.std.specs.Prelude.{MatchResult}
use Rattle.code_form.specs.Known.{wrote_some}
use Rattle.scope_verifier_laws.specs.declared.fault.VerifyFault.TheVariants.{OutOfMemory}
use Rattle.scope_verifier.specs.Shown.{Follows, OptionBelow}
use Rattle.scope_verifier.proofs.knowledge.Knowledge.wrote_some.Goals as goal

pub returns-in-Some : goal.returns-in-Some
returns-in-Some c =
    subst (λ (x : Option ℕ). MatchResult c.wrote.result (λ _. Follows c.args.self.now c.wrote.new.self (λ registers _. OptionBelow registers x) (wrote_some x)) (λ f. f ≡ OutOfMemory)) (sym c.in-Some.is) c.wrote.ensures
