-- The words of a frame that is being filled.
use Rattle.std.proofs.Common.{◌≡◌, ◌≢◌, ℕ, zero, suc, ◌+◌, ◌==◌, cond, Bool, List, [], ◌∷◌, ◌++◌, take, sym, refl, ap, ◌∙◌, eq-eqb, ne_eqb, arith, below_more}
use Rattle.std.specs.Prelude.{Option, Some, None, replicate}
use Rattle.pointer_word.specs.Hands.{later, listed, seen}
use Rattle.object_moves.specs.Taken.{FilledBelow}

later_push : (d : Option ℕ) (h : List (ℕ × ℕ)) (p : ℕ × ℕ) (i : ℕ) → later d (h ++ p ∷ []) i ≡ cond (p.0 == i) (Some p.1) (later d h i)
later_push d [] p i = refl
later_push d (q ∷ h) p i = later_push (cond (q.0 == i) (Some q.1) d) h p i

pub seen_here : (h : List (ℕ × ℕ)) (i n : ℕ) → seen (h ++ (i, n) ∷ []) i ≡ Some n
seen_here h i n = later_push None h (i, n) i ∙ ap (λ (b : Bool). cond b (Some n) (seen h i)) (eq-eqb i i refl)

pub seen_else : (h : List (ℕ × ℕ)) (i j n : ℕ) → j ≢ i → seen (h ++ (i, n) ∷ []) j ≡ seen h j
seen_else h i j n ne = later_push None h (i, n) j ∙ ap (λ (b : Bool). cond b (Some n) (seen h j)) (ne_eqb i j (λ e. ne (sym e)))

filled_more : (ps : List (ℕ × ℕ)) (ws : List ℕ) (i : ℕ) → FilledBelow ps ws i → FilledBelow (ps ++ (i, listed ws i) ∷ []) ws (i + 1)
filled_more ps ws i h = below_more _ _ (λ k l. seen_else ps i k (listed ws i) (λ e. absurd (omega arith)) ∙ h k l) (seen_here ps i (listed ws i))

pub filled_next : (ps qs : List (ℕ × ℕ)) (ws : List ℕ) (i : ℕ) → FilledBelow ps ws i → qs ≡ ps ++ (i, listed ws i) ∷ [] → FilledBelow qs ws (i + 1)
filled_next ps qs ws i h e k l = ap (λ (z : List (ℕ × ℕ)). seen z k) e ∙ filled_more ps ws i h k l

-- the first of zeros are zeros
pub zeros : (k n i : ℕ) → listed (take k (replicate n 0)) i ≡ 0
zeros zero n i = refl
zeros (suc k) zero i = refl
zeros (suc k) (suc n) zero = refl
zeros (suc k) (suc n) (suc i) = zeros k n i
