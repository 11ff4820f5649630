use Rattle.world_semantics.proofs.Able.{same_answers}
use Rattle.world_semantics.proofs.laws.answers.Goals as goal

pub returns : goal.returns
returns c = record {
  honest = λ z images w e a is. same_answers (Unit {0}) z images w e a is.hands;
  unsound_store = λ z images w e a is. same_answers ⊥ z images w e a is.hands;
}
