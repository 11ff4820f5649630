use Rattle.std.proofs.Common.{◌≡◌, sym, subst}
use Rattle.std.specs.Prelude.{MatchResult}
use Rattle.code_form.specs.declared.form.Fact.{Fact}
use Rattle.scope_verifier_laws.specs.declared.fault.VerifyFault.TheVariants.{OutOfMemory}
use Rattle.scope_verifier.specs.declared.knowledge.Knowledge.{Knowledge}
use Rattle.scope_verifier.specs.Shown.{FactHasPlace, Follows, learned}
use Rattle.scope_verifier.proofs.knowledge.Knowledge.learn.Goals as goal

abbrev Learns : Knowledge → Knowledge → Fact → Type 0
Learns n m x = Follows n m (λ registers scopes. FactHasPlace registers scopes x) (learned x)

pub returns-in-Nonnull : goal.returns-in-Nonnull
returns-in-Nonnull c = subst (Learns c.args.self.now c.found.new.self) (sym c.in-Nonnull.is) c.found.ensures

pub returns-in-Inside : goal.returns-in-Inside
returns-in-Inside c = subst (λ (x : Fact). MatchResult c.indexed.result (λ _. Learns c.args.self.now c.indexed.new.self x) (λ f. f ≡ OutOfMemory)) (sym c.in-Inside.is) c.indexed.ensures

pub returns-in-Aimed : goal.returns-in-Aimed
returns-in-Aimed c = subst (Learns c.args.self.now c.told.new.self) (sym c.in-Aimed.is) c.told.ensures

pub returns-in-Shut : goal.returns-in-Shut
returns-in-Shut c = subst (Learns c.args.self.now c.told-in-Shut.new.self) (sym c.in-Shut.is) c.told-in-Shut.ensures
