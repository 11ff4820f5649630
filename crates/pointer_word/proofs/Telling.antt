-- lists of pairs that are so of a frame's cells
use Rattle.std.proofs.Common.{◌≡◌, inl, inr, ℕ, Bool, true, false, cond, List, [], ◌∷◌, ◌++◌, Option, Some, None, refl, sym, ap, ◌∙◌}
use Rattle.std.specs.Prelude.{◌==◌}
use Rattle.std.proofs.lemmas.Bool.Decides.{eqb_tells}
use Rattle.pointer_word.specs.Hands.{later}
use Rattle.pointer_word.specs.Sound.{AllTell, Tells}

-- cells that stay
pub all_stay : (ps : List (ℕ × ℕ)) (c d : ℕ → ℕ) → ((i : ℕ) → d i ≡ c i) → AllTell ps c → AllTell ps d
all_stay [] c d e is = tt
all_stay (p ∷ ps) c d e is = (e p.0 ∙ is.0, all_stay ps c d e is.1)

-- one more pair
pub all_on : (ps : List (ℕ × ℕ)) (c : ℕ → ℕ) (i v : ℕ) → c i ≡ v → AllTell ps c → AllTell (ps ++ (i, v) ∷ []) c
all_on [] c i v e is = (e, tt)
all_on (p ∷ ps) c i v e is = (is.0, all_on ps c i v e is.1)

later_tells : (ps : List (ℕ × ℕ)) (c : ℕ → ℕ) (d : Option ℕ) (i v : ℕ) → ((w : ℕ) → d ≡ Some w → c i ≡ w) → AllTell ps c → later d ps i ≡ Some v → c i ≡ v
later_tells [] c d i v known is e = known v e
later_tells (p ∷ ps) c d i v known is e = later_tells ps c (cond (p.0 == i) (Some p.1) d) i v (λ w. pick (p.0 == i) w (λ t. elim (eqb_tells p.0 i) [ inl h ↦ h.1 | inr h ↦ let z : true ≡ false = sym t ∙ h.0 in cc ])) is.1 e
  where
    pick : (b : Bool) (w : ℕ) → (b ≡ true → p.0 ≡ i) → cond b (Some p.1) d ≡ Some w → c i ≡ w
    pick true w at q = ap c (sym (at refl)) ∙ (is.0 ∙ (let r : Some p.1 ≡ Some w = q in cc))
    pick false w at q = known w q

-- where each pair is so, the last one of each index is
pub all_last : (ps : List (ℕ × ℕ)) (c : ℕ → ℕ) → AllTell ps c → Tells ps c
all_last ps c is i v e = later_tells ps c None i v (λ w q. cc) is e
