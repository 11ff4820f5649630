use Rattle.std.proofs.Common.{◌≡◌, ℕ, Option, sym, subst}
use Rattle.std.specs.Prelude.{MatchResult}
use Rattle.code_form.specs.declared.form.Operation.{Operation}
use Rattle.code_form.specs.Known.{after_operation, wrote, wrote_some}
use Rattle.scope_verifier_laws.specs.declared.fault.VerifyFault.TheVariants.{OutOfMemory}
use Rattle.scope_verifier.specs.declared.knowledge.Knowledge.{Knowledge}
use Rattle.scope_verifier.specs.Shown.{Follows, OperationHasPlace, OptionBelow}
use Rattle.scope_verifier.proofs.Changes.{others, weaker}
use Rattle.scope_verifier.proofs.knowledge.Knowledge.after_operation.Goals as goal

abbrev Goes : Knowledge → Knowledge → Operation → Type 0
Goes n m x = Follows n m (λ registers _. OperationHasPlace registers x) (after_operation x)

pub returns-in-CheckNull : goal.returns-in-CheckNull
returns-in-CheckNull c = subst (Goes c.args.self.now c.found.new.self) (sym c.in-CheckNull.is) c.found.ensures

pub returns-in_ok-wrote-in-CheckIndex : goal.returns-in_ok-wrote-in-CheckIndex
returns-in_ok-wrote-in-CheckIndex c =
    subst (λ (x : Operation). MatchResult c.indexed.result (λ _. Goes c.args.self.now c.indexed.new.self x) (λ f. f ≡ OutOfMemory)) (sym c.in-CheckIndex.is)
    (weaker c.indexed.result _ _ (λ q R S k h l. q R S (wrote c.in-CheckIndex.to k) (c.in_ok-wrote-in-CheckIndex.ensures R S k h l) l) c.indexed.ensures)

pub returns-in_default : goal.returns-in_default
returns-in_default c =
    weaker c.wrote_some.result _ _
    (λ q. others c.args.self.now c.wrote_some.new.self c.args.operation.now c.in_default.not-CheckNull c.in_default.not-CheckIndex
    (subst (λ (x : Option ℕ). Follows c.args.self.now c.wrote_some.new.self (λ registers _. OptionBelow registers x) (wrote_some x)) c.written_by.ensures q))
    c.wrote_some.ensures
