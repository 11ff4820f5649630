-- The words of a frame that is being filled.
use Rattle.std.proofs.Common.{◌≡◌, ℕ, suc, ◌+◌, List, [], ◌∷◌, ◌++◌, arith, sym, ap, ◌∙◌, subst}
use Rattle.pointer_word.specs.Hands.{Hand, listed, filling}
use Rattle.pointer_word.specs.Ordered.{IsFilled}
use Rattle.pointer_word.proofs.Ordered.{filled_one}
use Rattle.object_lock.specs.Seats.{with_hand}
use Rattle.object_lock.specs.SeatViews.{SeatView}

-- one more fill of the claimed frame
pub refilled : {W C : Type 0} (first old new : SeatView W C) (i v : ℕ) → old ≡ record first { view = with_hand first.view (record first.view.hand { filled = old.view.hand.filled }); log = old.log }
    → new ≡ record old { view = with_hand old.view (filling old.view.hand i v); log = new.log } → new ≡ record first { view = with_hand first.view (record first.view.hand { filled = new.view.hand.filled }); log = new.log }
refilled {W} {C} first old new i v a b =
    let g : new.view.hand.filled ≡ old.view.hand.filled ++ (i, v) ∷ [] = ap (λ (s : SeatView W C). s.view.hand.filled) b in
    b ∙ (ap (λ (s : SeatView W C). record s { view = with_hand s.view (filling s.view.hand i v); log = new.log }) a
    ∙ (ap (λ (xs : List (ℕ × ℕ)). record first { view = with_hand first.view (record first.view.hand { filled = xs }); log = new.log }) (sym g)))

pub filled_on : {W C : Type 0} (old new : SeatView W C) (ws : List ℕ) (i v : ℕ) → new ≡ record old { view = with_hand old.view (filling old.view.hand i v); log = new.log } → listed ws i ≡ v → IsFilled old.view.hand ws i → IsFilled new.view.hand ws (i + 1)
filled_on {W} {C} old new ws i v b e is =
    let one : suc i ≡ i + 1 = omega arith in
    subst (λ (k : ℕ). IsFilled new.view.hand ws k) one (subst (λ (x : Hand). IsFilled x ws (suc i)) (sym (ap (λ (s : SeatView W C). s.view.hand) b))
    (subst (λ (q : ℕ). IsFilled (filling old.view.hand i q) ws (suc i)) e (filled_one old.view.hand ws i is)))
