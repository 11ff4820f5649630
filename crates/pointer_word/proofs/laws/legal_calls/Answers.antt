use Rattle.pointer_word.proofs.Legal.{legal_may, may_legal, may_agree, agrees_anyway}
use Rattle.pointer_word.proofs.laws.legal_calls.Goals as goal

pub returns : goal.returns
returns c = record { may = legal_may (Unit {0}); legal = λ n s d m. (may_legal (Unit {0}) n s d m, may_agree (Unit {0}) n s d m); unsound_store = λ n s d e. legal_may ⊥ n s d e (agrees_anyway n s d) }
