-- The first fault of two, and what is known of each of some entry facts.
use Rattle.std.proofs.Common.{◌≡◌, ℕ, zero, suc, arith, inl, inr, refl, [], map, ◌+◌, ◌<◌, ◌≤◌, Bool, true, false, Option, Some, None, List, ◌∷◌, get_or, drop, length, sym, ap, ◌∙◌, add-one, drop-cons}
use Rattle.std.specs.Prelude.{◌&&◌, nat_lt, slice_get}
use Rattle.std.proofs.lemmas.Bool.{cases_lt, ltb-true}
use Rattle.code_form.specs.declared.form.Block.{Block as RustBlock}
use Rattle.code_form.specs.Form.{block_of}
use Rattle.std.proofs.Math.ListN.{drop_of_length-le}
use Rattle.code_form.specs.declared.form.Fact.{Fact}
use Rattle.code_form.specs.Known.{Known}
use Rattle.scope_verifier_laws.specs.Decided.{are_known, are_shut, is_known, is_shut}
use Rattle.scope_verifier_laws.specs.declared.fault.VerifyFault.{VerifyFault}
use Rattle.scope_verifier_laws.specs.First.{first_of}

-- the first of two is none
pub second : (a b : Option VerifyFault) → a ≡ None → first_of a b ≡ b
second a b e = ap (λ (x : Option VerifyFault). first_of x b) e

-- the first of two is a fault
pub first : (a b : Option VerifyFault) (f : VerifyFault) → a ≡ Some f → first_of a b ≡ Some f
first a b f e = ap (λ (x : Option VerifyFault). first_of x b) e

module _ (k : Known) (facts : List Fact) (i : ℕ) (d : Fact) (b : Bool) (there : i < length facts) (is : b ≡ is_known k (get_or facts i d)) (h : are_known k facts ≡ are_known k (drop i facts)) where
  here : are_known k facts ≡ (b && are_known k (drop (suc i) facts))
  here = h ∙ ap (are_known k) (drop-cons facts i d there) ∙ ap (λ x. x && are_known k (drop (suc i) facts)) (sym is)

  pub one_unknown : b ≡ false → false ≡ are_known k facts
  one_unknown e = sym (here ∙ ap (λ x. x && are_known k (drop (suc i) facts)) e)

  pub one_known : b ≡ true → are_known k facts ≡ are_known k (drop (i + 1) facts)
  one_known e = here ∙ ap (λ x. x && are_known k (drop (suc i) facts)) e ∙ ap (λ (n : ℕ). are_known k (drop n facts)) (sym (add-one i))

pub all_known : (k : Known) (facts : List Fact) (i : ℕ) → length facts ≤ i → are_known k facts ≡ are_known k (drop i facts) → true ≡ are_known k facts
all_known k facts i l h = sym (h ∙ ap (are_known k) (drop_of_length-le facts l))

-- the block of a number that is there
pub named_block : (bs : List RustBlock) (i : ℕ) (x : RustBlock) → true ≡ nat_lt i (length bs) → x ≡ get_or bs i x → slice_get (map block_of bs) i ≡ Some (block_of x)
named_block bs i x l e = by bs i (ltb-true i (length bs) (sym l)) e where
  by : (bs : List RustBlock) (i : ℕ) → i < length bs → x ≡ get_or bs i x → slice_get (map block_of bs) i ≡ Some (block_of x)
  by [] i l e = absurd (let z : ⊥ = omega arith in z)
  by (b ∷ bs) zero l e = ap (λ (y : RustBlock). Some (block_of y)) (sym e)
  by (b ∷ bs) (suc i) l e = by bs i (omega arith) e

-- one of some scopes is not known to be shut
pub not_all_shut : (k : Known) (n s : ℕ) → s < n → is_shut (k.scope s) ≡ false → false ≡ are_shut k n
not_all_shut k zero s l e = absurd (let z : ⊥ = omega arith in z)
not_all_shut k (suc n) s l e = elim (cases_lt s n) [
  | inl m ↦ ap (λ b. b && is_shut (k.scope n)) (not_all_shut k n s m e)
  | inr m ↦ let same : s ≡ n = omega arith in sym (none (are_shut k n) (is_shut (k.scope n)) (ap (λ t. is_shut (k.scope t)) (sym same) ∙ e))
]
  where
    none : (a b : Bool) → b ≡ false → a && b ≡ false
    none true b e = e
    none false b e = refl
