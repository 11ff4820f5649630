-- Allocations by their numbers, which stay when another is made.
use Rattle.std.proofs.Common.{◌≡◌, inl, inr, ℕ, suc, ◌<◌, ◌≤◌, cond, Some, List, [], ◌∷◌, length, refl, sym, ap, ◌∙◌, subst, arith}
use Rattle.std.specs.Prelude.{◌==◌}
use Rattle.std.proofs.lemmas.Bool.Decides.{eqb_tells}
use Rattle.code_form.specs.declared.form.Kind.{Kind}
use Rattle.code_form.specs.declared.form.Kind.TheVariants as kind
use Rattle.code_form.specs.Form.{Head}
use Rattle.code_form.specs.declared.allocation.Allocation.{Allocation}
use Rattle.code_form.specs.Code.{cells_of, length_of, sizes}
use Rattle.code_verification.proofs.States.{AreTyped, IsKind, Refers, allocation_at}

-- 0 is of every kind
pub zero_is : (H : Head) (al : List Allocation) (k : Kind) → IsKind H al k 0
zero_is H al kind.Int = tt
zero_is H al kind.Bool = tt
zero_is H al kind.Char = tt
zero_is H al kind.Text = ([], refl)
zero_is H al (kind.Ptr l) = inl refl
zero_is H al (kind.Arr l) = inl refl
zero_is H al (kind.Off l) = tt

pub some_le : (al : List Allocation) (v : ℕ) (a : Allocation) → allocation_at al v ≡ Some a → v ≤ length al
some_le [] v a e = absurd (cc e)
some_le (b ∷ al) v a e = elim (eqb_tells v (suc (length al))) [
  | inl f ↦ let z = f.1 in omega arith
  | inr f ↦ let z = some_le al v a (sym (ap (λ c. cond c (Some b) (allocation_at al v)) f.0) ∙ e) in omega arith
]

-- an allocation keeps its place when another is made
pub grown : (b : Allocation) (al : List Allocation) (v : ℕ) (a : Allocation) → allocation_at al v ≡ Some a → allocation_at (b ∷ al) v ≡ Some a
grown b al v a e = elim (eqb_tells v (suc (length al))) [
  | inl f ↦ absurd (let z = f.1 in let y = some_le al v a e in omega arith)
  | inr f ↦ ap (λ c. cond c (Some b) (allocation_at al v)) f.0 ∙ e
]

pub newest : (b : Allocation) (al : List Allocation) → allocation_at (b ∷ al) (suc (length al)) ≡ Some b
newest b al = elim (eqb_tells (suc (length al)) (suc (length al))) [
  | inl f ↦ ap (λ c. cond c (Some b) (allocation_at al (suc (length al)))) f.0
  | inr f ↦ absurd (f.1 refl)
]

pub refers_grown : (b : Allocation) (al : List Allocation) (l n v : ℕ) → Refers al l n v → Refers (b ∷ al) l n v
refers_grown b al l n v x = (x.0, grown b al v x.0 x.1, x.2, x.3)

pub kind_grown : (H : Head) (b : Allocation) (al : List Allocation) (k : Kind) (v : ℕ) → IsKind H al k v → IsKind H (b ∷ al) k v
kind_grown H b al kind.Int v x = tt
kind_grown H b al kind.Bool v x = tt
kind_grown H b al kind.Char v x = tt
kind_grown H b al kind.Text v x = x
kind_grown H b al (kind.Ptr l) v (inl e) = inl e
kind_grown H b al (kind.Ptr l) v (inr x) = inr (refers_grown b al l 1 v x)
kind_grown H b al (kind.Arr l) v (inl e) = inl e
kind_grown H b al (kind.Arr l) v (inr x) = inr (refers_grown b al l 0 v x)
kind_grown H b al (kind.Off l) v x = tt

length-sizes : (al : List Allocation) → length (sizes al) ≡ length al
length-sizes [] = refl
length-sizes (a ∷ al) = ap suc (length-sizes al)

pub cells_at : (al : List Allocation) (v : ℕ) (a : Allocation) → allocation_at al v ≡ Some a → cells_of (sizes al) v ≡ a.cells
cells_at [] v a e = absurd (cc e)
cells_at (b ∷ al) v a e = elim (eqb_tells v (suc (length al))) [
  | inl f ↦
      let z : Some b ≡ Some a = sym (ap (λ c. cond c (Some b) (allocation_at al v)) f.0) ∙ e in
      let y : b ≡ a = cc z in
      ap (λ n. cond (v == suc n) b.cells (cells_of (sizes al) v)) (length-sizes al) ∙ ap (λ c. cond c b.cells (cells_of (sizes al) v)) f.0 ∙ ap (λ (q : Allocation). q.cells) y
  | inr f ↦
      ap (λ n. cond (v == suc n) b.cells (cells_of (sizes al) v)) (length-sizes al) ∙ ap (λ c. cond c b.cells (cells_of (sizes al) v)) f.0
      ∙ cells_at al v a (sym (ap (λ c. cond c (Some b) (allocation_at al v)) f.0) ∙ e)
]

pub length_at : (al : List Allocation) (v : ℕ) (a : Allocation) → allocation_at al v ≡ Some a → length_of al v ≡ a.length
length_at [] v a e = absurd (cc e)
length_at (b ∷ al) v a e = elim (eqb_tells v (suc (length al))) [
  | inl f ↦
      let z : Some b ≡ Some a = sym (ap (λ c. cond c (Some b) (allocation_at al v)) f.0) ∙ e in
      let y : b ≡ a = cc z in
      ap (λ c. cond c b.length (length_of al v)) f.0 ∙ ap (λ (q : Allocation). q.length) y
  | inr f ↦ ap (λ c. cond c b.length (length_of al v)) f.0 ∙ length_at al v a (sym (ap (λ c. cond c (Some b) (allocation_at al v)) f.0) ∙ e)
]

-- ---- lengths

pub length_zero : (al : List Allocation) → length_of al 0 ≡ 0
length_zero [] = refl
length_zero (a ∷ al) = elim (eqb_tells 0 (suc (length al))) [ inl f ↦ absurd (let z = f.1 in omega arith) | inr f ↦ ap (λ c. cond c a.length (length_of al 0)) f.0 ∙ length_zero al ]

known_length : (al : List Allocation) (v i : ℕ) → i < length_of al v → v ≤ length al
known_length [] v i lt = absurd (omega arith)
known_length (b ∷ al) v i lt = elim (eqb_tells v (suc (length al))) [
  | inl f ↦ let z = f.1 in omega arith
  | inr f ↦ let z = known_length al v i (subst (λ c. i < cond c b.length (length_of al v)) f.0 lt) in omega arith
]

pub length_grown : (b : Allocation) (al : List Allocation) (v i : ℕ) → i < length_of al v → i < length_of (b ∷ al) v
length_grown b al v i lt = elim (eqb_tells v (suc (length al))) [
  | inl f ↦ absurd (let z = f.1 in let y = known_length al v i lt in omega arith)
  | inr f ↦ subst (λ c. i < cond c b.length (length_of al v)) (sym f.0) lt
]

-- registers keep their kinds
pub typed_grown : (H : Head) (b : Allocation) (al : List Allocation) (ks : List Kind) (rs : List ℕ) → AreTyped H al ks rs → AreTyped H (b ∷ al) ks rs
typed_grown H b al ks rs typed r k e = kind_grown H b al k _ (typed r k e)
