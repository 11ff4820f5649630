use Rattle.world_semantics.proofs.Causing.{caused, wanted, was_refused}
use Rattle.world_semantics.proofs.laws.wants.Goals as goal

pub returns : goal.returns
returns c = record {
  cause = caused;
  wanted = λ z images events v k want f m. wanted z images (Unit {0}) k want v events f m;
  store_failed = λ z images events v k f has. was_refused z images (Unit {0}) k v events f has;
  unsound_store = λ z images events v k want f m. wanted z images ⊥ k want v events f m;
  unsound_failure = λ z images events v k f has. was_refused z images ⊥ k v events f has;
}
