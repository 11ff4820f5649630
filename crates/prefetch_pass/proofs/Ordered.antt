-- Hints in code in order, and in code that has no other code in it.
use Rattle.std.proofs.Common.{◌≡◌, ℕ, true, Option, List, [], ◌∷◌, map, refl, ap}
use Rattle.middle_form.specs.Scoped as s
use Rattle.middle_form.specs.ScopedViews.{scoped_code_of}
use Rattle.middle_form.specs.declared.scoped.ScopedCode.{ScopedCode, Sequence', Do, Load, Store, LoadBy, StoreBy, Aim, Leave, Loose, Call, Fail, Choose', Loop', Block', Exit}
use Rattle.scoped_building.specs.Building.{in_order, is_straight}
use Rattle.scoped_building.proofs.Rows.{row_is_not_straight}
use Rattle.prefetch_pass.specs.Prefetched.{hinted}

pub hinted_in_order : (cells : ℕ) (ds : List ℕ) (cs : List s.Code) → in_order (map (hinted cells ds) cs) ≡ hinted cells ds (in_order cs)
hinted_in_order cells ds [] = refl
hinted_in_order cells ds (x ∷ rest) = ap (s.Then (hinted cells ds x)) (hinted_in_order cells ds rest)

pub map_same : {A : Type 0} (xs : List A) → map (λ (y : A). y) xs ≡ xs
map_same [] = refl
map_same (x ∷ xs) = ap (λ rest. x ∷ rest) (map_same xs)

-- it stays as it is, but for loads and stores
pub hinted_alone : (cells : ℕ) (ds : List ℕ) (a : ScopedCode) → ((to z r : ℕ) (off : Option ℕ) (disp : ℕ) → a ≡ Load to z r off disp → ⊥) → ((z r : ℕ) (off : Option ℕ) (disp from : ℕ) → a ≡ Store z r off disp from → ⊥)
    → ((to z r : ℕ) (off : Option ℕ) (disp : ℕ) → a ≡ LoadBy to z r off disp → ⊥) → ((z r : ℕ) (off : Option ℕ) (disp from : ℕ) → a ≡ StoreBy z r off disp from → ⊥)
    → is_straight (scoped_code_of a) ≡ true → scoped_code_of a ≡ hinted cells ds (scoped_code_of a)
hinted_alone cells ds (Sequence' shape all) l t k u e = absurd (row_is_not_straight all e)
hinted_alone cells ds (Do o) l t k u e = refl
hinted_alone cells ds (Load to z r off disp) l t k u e = absurd (l to z r off disp refl)
hinted_alone cells ds (Store z r off disp from) l t k u e = absurd (t z r off disp from refl)
hinted_alone cells ds (LoadBy to z r off disp) l t k u e = absurd (k to z r off disp refl)
hinted_alone cells ds (StoreBy z r off disp from) l t k u e = absurd (u z r off disp from refl)
hinted_alone cells ds (Aim z r off disp) l t k u e = refl
hinted_alone cells ds (Leave z) l t k u e = refl
hinted_alone cells ds (Loose z) l t k u e = refl
hinted_alone cells ds (Call to g args) l t k u e = refl
hinted_alone cells ds (Fail a) l t k u e = refl
hinted_alone cells ds (Choose' a p b q c) l t k u e = absurd (cc e)
hinted_alone cells ds (Loop' p test a q body) l t k u e = absurd (cc e)
hinted_alone cells ds (Block' p a) l t k u e = absurd (cc e)
hinted_alone cells ds (Exit j) l t k u e = refl
