-- Lists by their indexes: what is put behind or in front of them, and register files.
use Rattle.std.proofs.Common.{◌≡◌, ◌≢◌, ◌⊎◌, inl, inr, ℕ, zero, suc, ◌+◌, ◌<◌, List, [], ◌∷◌, ◌++◌, length, get_or, set, refl, ap, ◌∙◌, arith, Some}
use Rattle.std.specs.Prelude.{slice_get, slice_index, slice_set}
use Rattle.std.proofs.lemmas.List.{get_or-set_same, get_or-set_other, length-set}

module _ {A : Type 0} where
  -- what stands in a list stands there with more behind it
  pub get_front : (xs ys : List A) (k : ℕ) (x : A) → slice_get xs k ≡ Some x → slice_get (xs ++ ys) k ≡ Some x
  get_front [] ys k x e = absurd (cc e)
  get_front (y ∷ xs) ys zero x e = e
  get_front (y ∷ xs) ys (suc k) x e = get_front xs ys k x e

  -- and so many places further with a list in front of it
  pub get_behind : (xs ys : List A) (k : ℕ) → slice_get (xs ++ ys) (length xs + k) ≡ slice_get ys k
  get_behind [] ys k = ap (slice_get ys) (let z : 0 + k ≡ k = omega arith in z)
  get_behind (x ∷ xs) ys k = ap (slice_get (x ∷ (xs ++ ys))) (let z : suc (length xs) + k ≡ suc (length xs + k) = omega arith in z) ∙ get_behind xs ys k

  pub get_or_front : (xs ys : List A) (k : ℕ) (d : A) → k < length xs → get_or (xs ++ ys) k d ≡ get_or xs k d
  get_or_front [] ys k d l = absurd (let z : ⊥ = omega arith in z)
  get_or_front (x ∷ xs) ys zero d l = refl
  get_or_front (x ∷ xs) ys (suc k) d l = get_or_front xs ys k d (omega arith)

  pub get_last : (xs : List A) (x : A) → slice_get (xs ++ x ∷ []) (length xs) ≡ Some x
  get_last [] x = refl
  get_last (y ∷ xs) x = get_last xs x

  -- what stands in a list with one more is of the list, or the last
  pub last_or : (xs : List A) (y : A) (k : ℕ) (a : A) → slice_get (xs ++ y ∷ []) k ≡ Some a → (slice_get xs k ≡ Some a) ⊎ ((k ≡ length xs) × (a ≡ y))
  last_or [] y zero a e = inr (refl, cc e)
  last_or [] y (suc k) a e = absurd (cc e)
  last_or (x ∷ xs) y zero a e = inl e
  last_or (x ∷ xs) y (suc k) a e = at (last_or xs y k a e)
    where
      at : ((slice_get xs k ≡ Some a) ⊎ ((k ≡ length xs) × (a ≡ y))) → (slice_get xs k ≡ Some a) ⊎ ((suc k ≡ suc (length xs)) × (a ≡ y))
      at (inl z) = inl z
      at (inr z) = inr (ap suc z.0, z.1)

  pub length_more : (xs : List A) (x : A) → length (xs ++ x ∷ []) ≡ suc (length xs)
  length_more [] x = refl
  length_more (y ∷ xs) x = ap suc (length_more xs x)

  -- ---- an element that is set

  pub get_set : (xs : List A) (k : ℕ) (x : A) → k < length xs → slice_get (set xs k x) k ≡ Some x
  get_set [] k x l = absurd (let z : ⊥ = omega arith in z)
  get_set (y ∷ xs) zero x l = refl
  get_set (y ∷ xs) (suc k) x l = get_set xs k x (omega arith)

  pub get_set_other : (xs : List A) (k j : ℕ) (x : A) → j ≢ k → slice_get (set xs k x) j ≡ slice_get xs j
  get_set_other [] k j x d = refl
  get_set_other (y ∷ xs) zero zero x d = absurd (d refl)
  get_set_other (y ∷ xs) zero (suc j) x d = refl
  get_set_other (y ∷ xs) (suc k) zero x d = refl
  get_set_other (y ∷ xs) (suc k) (suc j) x d = get_set_other xs k j x (λ e. d (ap suc e))

  pub set_front : (xs ys : List A) (k : ℕ) (x : A) → k < length xs → set (xs ++ ys) k x ≡ set xs k x ++ ys
  set_front [] ys k x l = absurd (let z : ⊥ = omega arith in z)
  set_front (y ∷ xs) ys zero x l = refl
  set_front (y ∷ xs) ys (suc k) x l = ap (λ (l : List A). y ∷ l) (set_front xs ys k x (omega arith))

  pub set_behind : (xs ys : List A) (k : ℕ) (x : A) → set (xs ++ ys) (length xs + k) x ≡ xs ++ set ys k x
  set_behind [] ys k x = ap (λ j. set ys j x) (let z : 0 + k ≡ k = omega arith in z)
  set_behind (y ∷ xs) ys k x =
      ap (λ j. set (y ∷ (xs ++ ys)) j x) (let z : suc (length xs) + k ≡ suc (length xs + k) = omega arith in z)
      ∙ ap (λ (l : List A). y ∷ l) (set_behind xs ys k x)

-- ---- register files

-- a register that is set holds its value
pub register_set : (rs : List ℕ) (d v : ℕ) → d < length rs → slice_index (slice_set rs d v) d ≡ v
register_set rs d v l = get_or-set_same rs d v 0 l

-- the others hold what they held
pub register_other : (rs : List ℕ) (d e v : ℕ) → e ≢ d → slice_index (slice_set rs d v) e ≡ slice_index rs e
register_other rs d e v apart = get_or-set_other rs d e v 0 apart

-- and there are as many
pub registers_set : (rs : List ℕ) (d v : ℕ) → length (slice_set rs d v) ≡ length rs
registers_set rs d v = length-set rs d v
