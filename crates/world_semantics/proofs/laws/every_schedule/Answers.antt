use Rattle.pointer_word.proofs.Safe.{safe}
use Rattle.world_semantics.proofs.Stepping.{happened, stepped, reached}
use Rattle.world_semantics.proofs.laws.every_schedule.Goals as goal

pub returns : goal.returns
returns c = record {
  sound = λ z images events v f. reached (Unit {0}) z images v events f;
  safe = λ z images events v f. safe (Unit {0}) z.cells v.lock (reached (Unit {0}) z images v events f).lock;
  unsound_store = λ z images events v f. safe ⊥ z.cells v.lock (reached ⊥ z images v events f).lock;
  step = λ z images w u e is honest b. (stepped (Unit {0}) z images w u e b (λ _. honest) is, (happened (Unit {0}) z images w u e b (λ _. honest) is).sound);
  step_unsound = λ z images w u e is b. (stepped ⊥ z images w u e b (λ k. absurd k) is, (happened ⊥ z images w u e b (λ k. absurd k) is).sound);
}
