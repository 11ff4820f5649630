-- What the tables of a loop tell is what the definitions say of it.
use Rattle.std.proofs.Common.{◌≡◌, ℕ, ◌&&◌, [], ◌∷◌, Bool, true, false, cond, List, Option, Some, None, refl, sym, ap, ◌∙◌, map, inl, inr}
use Rattle.std.specs.Prelude.{◌==◌, unwrap_or}
use Rattle.std.specs.List.{list_all}
use Rattle.std.proofs.lemmas.Bool.{eq-eqb, ne_eqb, cases_eq}
use Rattle.std.proofs.lemmas.List.Folds.{list_all-map}
use Rattle.cells.specs.declared.int32.Int32Op.TheVariants.{Add}
use Rattle.code_form.specs.declared.form.Operation.{Operation}
use Rattle.code_form.specs.declared.form.Operation.TheVariants.{Binary, Move}
use Rattle.code_form.specs.Code.{is_register}
use Rattle.middle_form.specs.Scoped.{Code}
use Rattle.prefetch_pass.specs.Gathered.{adds_to, common, each_of, is_one, raises}
use Rattle.prefetch_pass.specs.Raised.{changes_of, is_each, is_positive, is_raise, is_step, is_sum}
use Rattle.prefetch_pass.proofs.Gathering.{mark_is, one_is}

eq_comm : (a b : ℕ) → (a == b) ≡ (b == a)
eq_comm a b = elim (cases_eq a b) [
  | inl e ↦ eq-eqb a b e ∙ sym (eq-eqb b a (sym e))
  | inr n ↦ ne_eqb a b n ∙ sym (ne_eqb b a (λ e. n (sym e)))
]

summand_is : (r a : ℕ) (x : Bool) → is_register r (cond x (Some a) None) ≡ (a == r) && x
summand_is r a true = eq_comm r a ∙ alone (a == r)
  where
    alone : (b : Bool) → b ≡ b && true
    alone true = refl
    alone false = refl
summand_is r a false = none (a == r)
  where
    none : (b : Bool) → false ≡ b && false
    none true = refl
    none false = refl

-- tests with the same answers
same_tests : {p q : Option Operation → Bool} → ((c : Option Operation) → p c ≡ q c) → p ≡ q
same_tests h = λ i c. h c i

module _ (test body : Code) where
  sum_is : (r : ℕ) (c : Option Operation) → is_register r (adds_to (is_step test body) c) ≡ is_sum test body r c
  sum_is r (Some (Binary Add d a b)) = summand_is r a (is_step test body b)
  sum_is r c = refl

  sums_are : (r : ℕ) (cs : List (Option Operation)) → is_one r (common (map (adds_to (is_step test body)) cs)) ≡ is_each (is_sum test body r) cs
  sums_are r [] = refl
  sums_are r (c ∷ cs) =
      one_is r (adds_to (is_step test body) c) (map (adds_to (is_step test body)) cs)
      ∙ (list_all-map (is_register r) (adds_to (is_step test body)) (c ∷ cs) ∙ ap (λ (p : Option Operation → Bool). list_all p (c ∷ cs)) (same_tests (sum_is r)))

  raise_is : (sums : ℕ → Option (Option ℕ)) → ((t : ℕ) → sums t ≡ common (map (adds_to (is_step test body)) (changes_of t test body)))
      → (r : ℕ) (c : Option Operation) → raises (is_step test body) sums r c ≡ is_raise test body r c
  raise_is sums s r (Some (Move d t)) = ap (is_one r) (s t) ∙ sums_are r (changes_of t test body)
  raise_is sums s r c = sum_is r c

  -- tables of the changes of each register: which are steps, what is common to its sums, and which are raised
  pub told : (marks : ℕ → Option Bool) (sums : ℕ → Option (Option ℕ)) (among : ℕ → List (Option Operation))
      → ((r : ℕ) → among r ≡ changes_of r test body)
      → ((r : ℕ) → marks r ≡ each_of is_positive (among r))
      → ((r : ℕ) → sums r ≡ common (map (adds_to (λ q. unwrap_or (marks q) false)) (among r)))
      → (r : ℕ) → each_of (raises (λ q. unwrap_or (marks q) false) sums r) (among r) ≡ each_of (is_raise test body r) (changes_of r test body)
  told marks sums among all steps s r =
      let step : ℕ → Bool = λ q. unwrap_or (marks q) false in
      let same : step ≡ is_step test body =
      λ i q. (ap (λ (o : Option Bool). unwrap_or o false) (steps q ∙ ap (each_of is_positive) (all q)) ∙ mark_is is_positive (changes_of q test body)) i in
      let of_steps : (t : ℕ) → sums t ≡ common (map (adds_to (is_step test body)) (changes_of t test body)) =
      λ t. s t ∙ (ap (λ (l : List (Option Operation)). common (map (adds_to step) l)) (all t) ∙ ap (λ (p : ℕ → Bool). common (map (adds_to p) (changes_of t test body))) same) in
      ap (each_of (raises step sums r)) (all r)
      ∙ (ap (λ (p : ℕ → Bool). each_of (raises p sums r) (changes_of r test body)) same
      ∙ ap (λ (p : Option Operation → Bool). each_of p (changes_of r test body)) (same_tests (raise_is sums of_steps r)))
