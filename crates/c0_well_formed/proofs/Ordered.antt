-- What holds of each function of a text holds of each in the order of the code.
use Rattle.std.proofs.Common.{◌≡◌, ℕ, zero, suc, List, [], ◌∷◌, set, Option, Some, None, refl, subst}
use Rattle.std.specs.Prelude.{slice_get}
use Rattle.c0_typed.specs.declared.tree.Function.{Function}
use Rattle.lower.specs.Lowered.{with_main_first}
use Rattle.c0_well_formed.proofs.CellKinds.{Each}

at_place : (Q : Function → Type 0) (fs : List Function) (i : ℕ) (h : Function) → Each Q fs → slice_get fs i ≡ Some h → Q h
at_place Q [] i h all e = absurd (cc e)
at_place Q (x ∷ rest) zero h all e = let same : x ≡ h = cc e in subst Q same all.0
at_place Q (x ∷ rest) (suc i) h all e = at_place Q rest i h all.1 e

with_one : (Q : Function → Type 0) (fs : List Function) (i : ℕ) (h : Function) → Each Q fs → Q h → Each Q (set fs i h)
with_one Q [] i h all e = tt
with_one Q (x ∷ rest) zero h all e = (e, all.1)
with_one Q (x ∷ rest) (suc i) h all e = (all.0, with_one Q rest i h all.1 e)

pub in_order : (Q : Function → Type 0) (main : ℕ) (fs : List Function) → Each Q fs → Each Q (with_main_first main fs)
in_order Q zero fs all = all
in_order Q (suc i) [] all = all
in_order Q (suc i) (x ∷ rest) all = by (slice_get rest i) refl
  where
    by : (o : Option Function) → slice_get rest i ≡ o → Each Q (elim o [ None ↦ x ∷ rest | Some g ↦ g ∷ set rest i x ])
    by None e = all
    by (Some g) e = (at_place Q rest i g all.1 e, with_one Q rest i x all.1 all.0)
