-- what the store answered
use Rattle.std.proofs.Common.{◌≡◌, ℕ, ◌<◌, ◌≤◌, true, false, cond, List, length, take, sym, ap, subst, arith}
use Rattle.std.specs.Prelude.{nat_lt}
use Rattle.std.proofs.lemmas.Bool.Decides.{nat_tests}
use Rattle.std.proofs.lemmas.List.{length-take-le, take_all}
use Rattle.pointer_word.specs.Machine.{Far}
use Rattle.remote_store.specs.declared.berth.Berth.{Berth}
use Rattle.remote_store.specs.declared.port.Port.{Port}
use Rattle.world_memory.specs.Answered.{AnswersSo, Asked, Nothing, Puts}
use Rattle.world_actors.specs.Asking.{asked_out}
use Rattle.world_semantics.specs.Programs.{Copying}
use Rattle.world_semantics.specs.Turns.{Answer}

below_true : (a b : ℕ) → a < b → nat_lt a b ≡ true
below_true a b l = grind (arith, nat_tests)

below_false : (a b : ℕ) → b ≤ a → nat_lt a b ≡ false
below_false a b l = grind (arith, nat_tests)

-- a copy asks nothing of the store
pub copy_asks : (n o f k : ℕ) (words : List ℕ) → length words ≡ n → k < length words → asked_out n (Copying o f (take k words)) ≡ Nothing
copy_asks n o f k words l below =
    let many : length (take k words) ≡ k = length-take-le k words (omega arith) in
    ap (λ b. cond b Nothing (Puts o)) (below_true (length (take k words)) n (omega arith))

-- behind the copies the object is put
pub put_asks : (n o f k : ℕ) (words : List ℕ) → length words ≡ n → length words ≤ k → asked_out n (Copying o f (take k words)) ≡ Puts o
put_asks n o f k words l full =
    let many : length (take k words) ≡ length words = ap length (take_all k words (omega arith)) in
    ap (λ b. cond b Nothing (Puts o)) (below_false (length (take k words)) n (omega arith))

module _ {S C : Type 0} (reliable : Type 0) (failures : S → ℕ) (gives : S → C → List ℕ → S → Type 0) (n : ℕ) (berths : List (Berth C)) (p q : Port S C) (far : ℕ → Far) (a : Answer) where
  -- where nothing is asked, nothing happens
  pub unasked : (x : Asked) → x ≡ Nothing → q ≡ p → AnswersSo reliable failures gives n berths p q far x a
  unasked x e same = subst (λ (y : Asked). AnswersSo reliable failures gives n berths p q far y a) (sym e) same

  -- the same question
  pub asked_as : (x y : Asked) → y ≡ x → AnswersSo reliable failures gives n berths p q far x a → AnswersSo reliable failures gives n berths p q far y a
  asked_as x y e told = subst (λ (k : Asked). AnswersSo reliable failures gives n berths p q far k a) (sym e) told
