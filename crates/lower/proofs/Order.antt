-- Functions stand in the code by their numbers there.
use Rattle.std.proofs.Common.{◌≡◌, ◌≢◌, ℕ, zero, suc, ◌<◌, ◌⊎◌, inl, inr, Bool, true, false, cond, List, [], ◌∷◌, length, set, Option, Some, None, refl, sym, ap, ◌∙◌, subst, arith}
use Rattle.std.specs.Prelude.{◌==◌, slice_get}
use Rattle.std.proofs.lemmas.Bool.Decides.{eqb_tells}
use Rattle.std.proofs.lemmas.Option.{slice_get_within}
use Rattle.c0_typed.specs.declared.tree.Function.{Function}
use Rattle.lower.specs.Lowered.{with_main_first}
use Rattle.lower_expressions.specs.Expressions.{swapped}
use Rattle.lower.proofs.Lists.{get_set, get_set_other}

abbrev Tells : ℕ → ℕ → Type 0
Tells a b = (((a == b) ≡ true) × (a ≡ b)) ⊎ (((a == b) ≡ false) × (a ≢ b))

-- each function stands at its number
pub order : (main : ℕ) (fs : List Function) (k : ℕ) (h g : Function) → slice_get fs main ≡ Some g → slice_get fs k ≡ Some h → slice_get (with_main_first main fs) (swapped main k) ≡ Some h
order zero fs k h g m e = at (eqb_tells k 0)
  where
    at : Tells k 0 → slice_get fs (cond (k == 0) 0 (cond (k == 0) 0 k)) ≡ Some h
    at (inl q) = ap (λ b. slice_get fs (cond b 0 (cond b 0 k))) q.0 ∙ subst (λ j. slice_get fs j ≡ Some h) q.1 e
    at (inr q) = ap (λ b. slice_get fs (cond b 0 (cond b 0 k))) q.0 ∙ e
order (suc i) [] k h g m e = absurd (cc m)
order (suc i) (f ∷ rest) k h g m e = ap (λ z. slice_get (elim z [ None ↦ f ∷ rest | Some x ↦ x ∷ set rest i f ]) (swapped (suc i) k)) m ∙ at (eqb_tells k (suc i)) (eqb_tells k 0)
  where
    further : (j : ℕ) → j ≢ i → slice_get (f ∷ rest) (suc j) ≡ Some h → slice_get (g ∷ set rest i f) (suc j) ≡ Some h
    further j ne e = get_set_other rest i j f ne ∙ e

    behind : (k : ℕ) → k ≢ suc i → k ≢ 0 → slice_get (f ∷ rest) k ≡ Some h → slice_get (g ∷ set rest i f) k ≡ Some h
    behind zero a b e = absurd (b refl)
    behind (suc j) a b e = further j (λ q. a (ap suc q)) e

    at : Tells k (suc i) → Tells k 0 → slice_get (g ∷ set rest i f) (cond (k == suc i) 0 (cond (k == 0) (suc i) k)) ≡ Some h
    at (inl q) z =
        ap (λ b. slice_get (g ∷ set rest i f) (cond b 0 (cond (k == 0) (suc i) k))) q.0
        ∙ sym m ∙ subst (λ j. slice_get (f ∷ rest) j ≡ Some h) q.1 e
    at (inr q) (inl z) =
        ap (λ b. slice_get (g ∷ set rest i f) (cond b 0 (cond (k == 0) (suc i) k))) q.0
        ∙ ap (λ b. slice_get (g ∷ set rest i f) (cond b (suc i) k)) z.0
        ∙ get_set rest i f (slice_get_within rest i g m) ∙ subst (λ j. slice_get (f ∷ rest) j ≡ Some h) z.1 e
    at (inr q) (inr z) =
        ap (λ b. slice_get (g ∷ set rest i f) (cond b 0 (cond (k == 0) (suc i) k))) q.0
        ∙ ap (λ b. slice_get (g ∷ set rest i f) (cond b (suc i) k)) z.0
        ∙ behind k q.1 z.1 e

-- `main` is the first
pub first : (main : ℕ) (fs : List Function) (g : Function) → slice_get fs main ≡ Some g → slice_get (with_main_first main fs) 0 ≡ Some g
first zero fs g m = m
first (suc i) [] g m = absurd (cc m)
first (suc i) (f ∷ rest) g m = ap (λ z. slice_get (elim z [ None ↦ f ∷ rest | Some x ↦ x ∷ set rest i f ]) 0) m
