-- Lists of types, compared from the front.
use Rattle.std.proofs.Common.{◌≡◌, ◌≢◌, ℕ, suc, ◌+◌, ◌<◌, List, [], ◌∷◌, length, get_or, map, drop, refl, ap, ◌∙◌, Bool, true, false}
use Rattle.std.specs.Prelude.{◌&&◌}
use Rattle.std.proofs.lemmas.List.{drop_more}
use Rattle.c0_rules.specs.Types.{ResolvedType, same_type, same_types}

-- lists of unequal lengths are not equal
pub unequal_lengths : {A : Type 0} (view : A → ResolvedType) (xs ys : List A) → length xs ≢ length ys → same_types (map view xs) (map view ys) ≡ false
unequal_lengths view [] [] h = absurd (h refl)
unequal_lengths view [] (y ∷ ys) h = refl
unequal_lengths view (x ∷ xs) [] h = refl
unequal_lengths view (x ∷ xs) (y ∷ ys) h = at (same_type (view x) (view y)) (unequal_lengths view xs ys (λ e. h (ap suc e)))
  where
    at : (b : Bool) → same_types (map view xs) (map view ys) ≡ false → (b && same_types (map view xs) (map view ys)) ≡ false
    at true e = e
    at false e = refl

-- the first of what is left, and the rest
pub step : {A : Type 0} (view : A → ResolvedType) (xs ys : List A) (i : ℕ) (d : A) → i < length xs → i < length ys
    → same_types (map view (drop i xs)) (map view (drop i ys)) ≡ (same_type (view (get_or xs i d)) (view (get_or ys i d)) && same_types (map view (drop (i + 1) xs)) (map view (drop (i + 1) ys)))
step view xs ys i d h k =
    ap (λ z. same_types (map view z) (map view (drop i ys))) (drop_more xs i d h) ∙ ap (λ z. same_types (map view (get_or xs i d ∷ drop (i + 1) xs)) (map view z)) (drop_more ys i d k)
