-- Two cells of a heap have two addresses.
use Rattle.std.proofs.Common.{◌≡◌, inl, inr, ℕ, suc, ◌+◌, ◌*◌, ◌-◌, ◌/◌, ◌%◌, ◌<◌, cond, List, [], ◌∷◌, length, sym, ap, ◌∙◌, subst, arith}
use Rattle.std.proofs.Math.Nat.{lt-div-mul-add, div-lt_iff_lt-mul}
use Rattle.std.proofs.lemmas.Nat.{div-add-mod'}
use Rattle.std.proofs.lemmas.Bool.Decides.{eqb_tells}
use Rattle.code_form.specs.Code.{cells_of}
use Rattle.code_form.specs.Placed.{Addresses, HaveAddresses, first_object, next_object, object_at, pieces}

below_pieces : (n m x : ℕ) → 0 < n → x < m → x / n < pieces n m
below_pieces n m x some l =
    let a : m + (n - 1) < (m + (n - 1)) / n * n + n = lt-div-mul-add some in
    let b : x < (m + (n - 1)) / n * n = omega arith in
    (div-lt_iff_lt-mul some).1 b

same_cell : (n x y : ℕ) → x / n ≡ y / n → x % n ≡ y % n → x ≡ y
same_cell n x y d m = sym (div-add-mod' x n) ∙ (ap (λ z. z * n + x % n) d ∙ (ap (λ z. y / n * n + z) m ∙ div-add-mod' y n))

inside : (n base : ℕ) (lens : List ℕ) → 0 < n → (r x : ℕ) → x < cells_of lens r → object_at n base lens r x < next_object n base lens
inside n base [] some r x l = absurd (omega arith)
inside n base (m ∷ lens) some r x l =
    elim (eqb_tells r (suc (length lens))) [
      | inl e ↦
          let a = below_pieces n m x some (subst (λ c. x < cond c m (cells_of lens r)) e.0 l) in
          let b : object_at n base (m ∷ lens) r x ≡ next_object n base lens + x / n = ap (λ c. cond c (next_object n base lens) (first_object n base lens r) + x / n) e.0 in
          omega arith
      | inr e ↦
          let a = inside n base lens some r x (subst (λ c. x < cond c m (cells_of lens r)) e.0 l) in
          let b : object_at n base (m ∷ lens) r x ≡ object_at n base lens r x = ap (λ c. cond c (next_object n base lens) (first_object n base lens r) + x / n) e.0 in
          omega arith
    ]

apart : (n base : ℕ) (lens : List ℕ) → 0 < n → (r x q y : ℕ) → x < cells_of lens r → y < cells_of lens q → object_at n base lens r x ≡ object_at n base lens q y → x % n ≡ y % n → (r ≡ q) × (x ≡ y)
apart n base [] some r x q y l k o m = absurd (omega arith)
apart n base (z ∷ lens) some r x q y l k o m =
    elim (eqb_tells r (suc (length lens))) [
      | inl e ↦
          let a : object_at n base (z ∷ lens) r x ≡ next_object n base lens + x / n = ap (λ c. cond c (next_object n base lens) (first_object n base lens r) + x / n) e.0 in
          elim (eqb_tells q (suc (length lens))) [
            | inl f ↦
                let b : object_at n base (z ∷ lens) q y ≡ next_object n base lens + y / n = ap (λ c. cond c (next_object n base lens) (first_object n base lens q) + y / n) f.0 in
                let d : x / n ≡ y / n = omega arith in
                (e.1 ∙ sym f.1, same_cell n x y d m)
            | inr f ↦
                let b : object_at n base (z ∷ lens) q y ≡ object_at n base lens q y = ap (λ c. cond c (next_object n base lens) (first_object n base lens q) + y / n) f.0 in
                let i = inside n base lens some q y (subst (λ c. y < cond c z (cells_of lens q)) f.0 k) in
                absurd (omega arith)
          ]
      | inr e ↦
          let a : object_at n base (z ∷ lens) r x ≡ object_at n base lens r x = ap (λ c. cond c (next_object n base lens) (first_object n base lens r) + x / n) e.0 in
          let h = subst (λ c. x < cond c z (cells_of lens r)) e.0 l in
          elim (eqb_tells q (suc (length lens))) [
            | inl f ↦
                let b : object_at n base (z ∷ lens) q y ≡ next_object n base lens + y / n = ap (λ c. cond c (next_object n base lens) (first_object n base lens q) + y / n) f.0 in
                let i = inside n base lens some r x h in
                absurd (omega arith)
            | inr f ↦
                let b : object_at n base (z ∷ lens) q y ≡ object_at n base lens q y = ap (λ c. cond c (next_object n base lens) (first_object n base lens q) + y / n) f.0 in
                apart n base lens some r x q y h (subst (λ c. y < cond c z (cells_of lens q)) f.0 k) (sym a ∙ (o ∙ b)) m
          ]
    ]

pub addresses : HaveAddresses
addresses n base lens some = record { inside = inside n base lens some; apart = apart n base lens some }
