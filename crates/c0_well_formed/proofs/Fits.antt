-- Code in order fits, and uses pointers where its places have no offset, where each part does.
use Rattle.std.proofs.Common.{◌≡◌, ℕ, true, List, [], ◌∷◌, ◌++◌, refl}
use Rattle.code_form.specs.declared.form.Kind.{Kind}
use Rattle.middle_form.specs.Form.{Code, Program}
use Rattle.middle_form.specs.WellFormed.{code_fits}
use Rattle.lower_expressions.specs.Expressions.{sequence}
use Rattle.lower.proofs.Registers.{and_true}
use Rattle.middle_form.specs.Guarded.{uses_pointers}
use Rattle.c0_well_formed.proofs.Tests.{both_true}

module _ (P : Program) (ks : List Kind) (around : ℕ) where
  -- code in order, with so many loops and blocks round it
  pub record AllFit (cs : List Code) : Type 0 where
    pub fits : code_fits P ks around (sequence cs) ≡ true
    pub pointers : uses_pointers ks (sequence cs) ≡ true

  both : (x : Code) (xs : List Code) → code_fits P ks around x ≡ true → code_fits P ks around (sequence xs) ≡ true → code_fits P ks around (sequence (x ∷ xs)) ≡ true
  both x xs h k = and_true (code_fits P ks around x) (code_fits P ks around (sequence xs)) h k

  joined : (xs ys : List Code) → code_fits P ks around (sequence xs) ≡ true → code_fits P ks around (sequence ys) ≡ true → code_fits P ks around (sequence (xs ++ ys)) ≡ true
  joined [] ys h k = k
  joined (x ∷ xs) ys h k = let q = both_true (code_fits P ks around x) (code_fits P ks around (sequence xs)) h in both x (xs ++ ys) q.0 (joined xs ys q.1 k)

  both_use : (x : Code) (xs : List Code) → uses_pointers ks x ≡ true → uses_pointers ks (sequence xs) ≡ true → uses_pointers ks (sequence (x ∷ xs)) ≡ true
  both_use x xs h k = and_true (uses_pointers ks x) (uses_pointers ks (sequence xs)) h k

  joined_use : (xs ys : List Code) → uses_pointers ks (sequence xs) ≡ true → uses_pointers ks (sequence ys) ≡ true → uses_pointers ks (sequence (xs ++ ys)) ≡ true
  joined_use [] ys h k = k
  joined_use (x ∷ xs) ys h k = let q = both_true (uses_pointers ks x) (uses_pointers ks (sequence xs)) h in both_use x (xs ++ ys) q.0 (joined_use xs ys q.1 k)

  pub fit_none : AllFit []
  fit_none = record { fits = refl; pointers = refl }

  pub fit_append : (xs ys : List Code) → AllFit xs → AllFit ys → AllFit (xs ++ ys)
  fit_append xs ys h k = record { fits = joined xs ys h.fits k.fits; pointers = joined_use xs ys h.pointers k.pointers }

  pub fit_then : (x : Code) (xs : List Code) → code_fits P ks around x ≡ true → uses_pointers ks x ≡ true → AllFit xs → AllFit (x ∷ xs)
  fit_then x xs h u k = record { fits = both x xs h k.fits; pointers = both_use x xs u k.pointers }

  pub fit_one : (x : Code) → code_fits P ks around x ≡ true → uses_pointers ks x ≡ true → AllFit (x ∷ [])
  fit_one x h u = fit_then x [] h u fit_none
