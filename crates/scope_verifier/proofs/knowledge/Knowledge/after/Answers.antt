use Rattle.std.proofs.Common.{◌≡◌, sym, subst}
use Rattle.std.specs.Prelude.{MatchResult}
use Rattle.code_form.specs.declared.form.Instruction.{Instruction}
use Rattle.code_form.specs.Form.{instruction_of}
use Rattle.code_form.specs.Known.{after}
use Rattle.scope_verifier_laws.specs.declared.fault.VerifyFault.TheVariants.{OutOfMemory}
use Rattle.scope_verifier.specs.declared.knowledge.Knowledge.{Knowledge}
use Rattle.scope_verifier.specs.Shown.{Follows, HasPlace}
use Rattle.scope_verifier.proofs.knowledge.Knowledge.after.Goals as goal

abbrev Goes : Knowledge → Knowledge → Instruction → Type 0
Goes n m x = Follows n m (λ registers scopes. HasPlace registers scopes (instruction_of x)) (after (instruction_of x))

pub returns-in-Simple : goal.returns-in-Simple
returns-in-Simple c = subst (λ (x : Instruction). MatchResult c.after_operation.result (λ _. Goes c.args.self.now c.after_operation.new.self x) (λ f. f ≡ OutOfMemory)) (sym c.in-Simple.is) c.after_operation.ensures

pub returns-in-Aim : goal.returns-in-Aim
returns-in-Aim c = subst (Goes c.args.self.now c.told.new.self) (sym c.in-Aim.is) c.told.ensures

pub returns-in-Load : goal.returns-in-Load
returns-in-Load c = subst (λ (x : Instruction). MatchResult c.wrote.result (λ _. Goes c.args.self.now c.wrote.new.self x) (λ f. f ≡ OutOfMemory)) (sym c.in-Load.is) c.wrote.ensures

pub returns-in-Leave : goal.returns-in-Leave
returns-in-Leave c = subst (Goes c.args.self.now c.told-in-Leave.new.self) (sym c.in-Leave.is) c.told-in-Leave.ensures

pub returns-in-Call : goal.returns-in-Call
returns-in-Call c = subst (λ (x : Instruction). MatchResult c.wrote_some.result (λ _. Goes c.args.self.now c.wrote_some.new.self x) (λ f. f ≡ OutOfMemory)) (sym c.in-Call.is) c.wrote_some.ensures
