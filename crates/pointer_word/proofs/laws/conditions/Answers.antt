use Rattle.pointer_word.proofs.Asking.{asked_may}
use Rattle.pointer_word.proofs.laws.conditions.Goals as goal

pub returns : goal.returns
returns c = record { honest = λ owner. asked_may owner (Unit {0}); unsound_store = λ owner. asked_may owner ⊥ }
