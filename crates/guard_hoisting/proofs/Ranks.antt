-- Places in lists of ways and uses, found from the first on.
use Rattle.std.proofs.Common.{◌≡◌, ℕ, zero, suc, ◌+◌, ◌<◌, ◌≤◌, Bool, true, false, cond, Option, List, [], ◌∷◌, ◌++◌, length, get_or, drop, take, refl, sym, ap, ◌∙◌, arith, append_assoc}
use Rattle.std.specs.Prelude.{nat_lt, slice_set}
use Rattle.std.specs.List.{insert}
use Rattle.std.proofs.lemmas.List.{take-take}
use Rattle.middle_form.specs.declared.scoped.ScopedCode.{ScopedCode}
use Rattle.middle_form.specs.declared.scoped.ScopedCode as scoped
use Rattle.middle_form.specs.Scoped.{Code, Leave}
use Rattle.middle_form.specs.ScopedViews.{scoped_code_of}
use Rattle.scoped_building.proofs.Rows.{codes_push}
use Rattle.scoped_building.proofs.Tests.{nil_right}
use Rattle.scoped_building.specs.Building.{codes}
use Rattle.guard_hoisting.specs.declared.ways.Use.{Use}
use Rattle.guard_hoisting.specs.declared.ways.Way.{Way}
use Rattle.guard_hoisting.specs.Building.{place_below, place_through}
use Rattle.guard_hoisting.specs.Hoisted.{closings, opening, openings}
use Rattle.guard_hoisting.specs.Ways.{first_use, first_way, is_through, ranked_in, ranked_with, scope_in, serves, used_again, with_use}

-- ---- the scope that serves a cell

pub scope_next : (ws : List Way) (r : ℕ) (off : Option ℕ) (disp i : ℕ) (w : Way) → i < length ws → get_or ws i w ≡ w → serves w r off disp ≡ false
    → i + scope_in (drop i ws) r off disp ≡ i + 1 + scope_in (drop (i + 1) ws) r off disp
scope_next [] r off disp i w lt g h = absurd (let z : ⊥ = omega (arith, lt) in z)
scope_next (v ∷ ws) r off disp zero w lt g h =
    let e : scope_in (v ∷ ws) r off disp ≡ suc (scope_in ws r off disp) = ap (λ x. cond (serves x r off disp) 0 (suc (scope_in ws r off disp))) g ∙ ap (λ b. cond b 0 (suc (scope_in ws r off disp))) h in
    omega (arith, e)
scope_next (v ∷ ws) r off disp (suc i) w lt g h =
    let e = scope_next ws r off disp i w (omega (arith, lt)) g h in
    let next : drop (suc i + 1) (v ∷ ws) ≡ drop (i + 1) ws = ap (λ j. drop j (v ∷ ws)) (let z : suc i + 1 ≡ suc (i + 1) = omega arith in z) in
    let same : scope_in (drop (suc i + 1) (v ∷ ws)) r off disp ≡ scope_in (drop (i + 1) ws) r off disp = ap (λ l. scope_in l r off disp) next in
    omega (arith, e, same)

pub scope_here : (ws : List Way) (r : ℕ) (off : Option ℕ) (disp i : ℕ) (w : Way) → i < length ws → get_or ws i w ≡ w → serves w r off disp ≡ true → scope_in (drop i ws) r off disp ≡ 0
scope_here [] r off disp i w lt g h = absurd (let z : ⊥ = omega (arith, lt) in z)
scope_here (v ∷ ws) r off disp zero w lt g h = ap (λ x. cond (serves x r off disp) 0 (suc (scope_in ws r off disp))) g ∙ ap (λ b. cond b 0 (suc (scope_in ws r off disp))) h
scope_here (v ∷ ws) r off disp (suc i) w lt g h = scope_here ws r off disp i w (omega (arith, lt)) g h

pub scope_past : (ws : List Way) (r : ℕ) (off : Option ℕ) (disp i : ℕ) → length ws ≤ i → scope_in (drop i ws) r off disp ≡ 0
scope_past [] r off disp zero le = refl
scope_past [] r off disp (suc i) le = refl
scope_past (w ∷ ws) r off disp zero le = absurd (let z : ⊥ = omega (arith, le) in z)
scope_past (w ∷ ws) r off disp (suc i) le = scope_past ws r off disp i (omega (arith, le))

-- ---- the place of a register among those that are used

pub used_there : (r : ℕ) (off : Option ℕ) (disp : ℕ) (us : List Use) (u : Use) → place_through r us < length us → get_or us (place_through r us) u ≡ u
    → slice_set us (place_through r us) (used_again u r off disp) ≡ with_use r off disp us
used_there r off disp [] u lt g = absurd (let z : ⊥ = omega (arith, lt) in z)
used_there r off disp (v ∷ us) u lt g = by_test (used_there r off disp us u) (is_through v.way r) lt g
  where
    by_test : (place_through r us < length us → get_or us (place_through r us) u ≡ u → slice_set us (place_through r us) (used_again u r off disp) ≡ with_use r off disp us)
        → (b : Bool) → cond b 0 (suc (place_through r us)) < suc (length us) → get_or (v ∷ us) (cond b 0 (suc (place_through r us))) u ≡ u
        → slice_set (v ∷ us) (cond b 0 (suc (place_through r us))) (used_again u r off disp) ≡ cond b (used_again v r off disp ∷ us) (v ∷ with_use r off disp us)
    by_test h true l g = ap (λ (x : Use). used_again x r off disp ∷ us) (sym g)
    by_test h false l g = ap (λ (xs : List Use). v ∷ xs) (h (omega (arith, l)) g)

pub used_first : (r : ℕ) (off : Option ℕ) (disp : ℕ) (us : List Use) → length us ≤ place_through r us → us ++ first_use r off disp ∷ [] ≡ with_use r off disp us
used_first r off disp [] le = refl
used_first r off disp (v ∷ us) le = by_test (used_first r off disp us) (is_through v.way r) le
  where
    by_test : (length us ≤ place_through r us → us ++ first_use r off disp ∷ [] ≡ with_use r off disp us) → (b : Bool) → suc (length us) ≤ cond b 0 (suc (place_through r us))
        → v ∷ (us ++ first_use r off disp ∷ []) ≡ cond b (used_again v r off disp ∷ us) (v ∷ with_use r off disp us)
    by_test h true l = absurd (let z : ⊥ = omega (arith, l) in z)
    by_test h false l = ap (λ (xs : List Use). v ∷ xs) (h (omega (arith, l)))

abbrev one_use : Way → Use
one_use w = record { way = w; times = 1 }

pub used_new : (r : ℕ) (off : Option ℕ) (disp : ℕ) (us : List Use) (w : Way) → w ≡ first_way r off disp → length us ≤ place_through r us → us ++ one_use w ∷ [] ≡ with_use r off disp us
used_new r off disp us w h le = ap (λ (x : Way). us ++ one_use x ∷ []) h ∙ used_first r off disp us le

-- ---- ranks

pub ranked_there : (u : Use) (vs : List Use) → insert vs (place_below u.times vs) u ≡ ranked_in u vs
ranked_there u [] = refl
ranked_there u (v ∷ vs) = by_test (ranked_there u vs) (nat_lt v.times u.times)
  where
    by_test : insert vs (place_below u.times vs) u ≡ ranked_in u vs → (b : Bool) → insert (v ∷ vs) (cond b 0 (suc (place_below u.times vs))) u ≡ cond b (u ∷ v ∷ vs) (v ∷ ranked_in u vs)
    by_test h true = refl
    by_test h false = ap (λ (xs : List Use). v ∷ xs) h

pub below_inside : (n : ℕ) (us : List Use) → place_below n us ≤ length us
below_inside n [] = omega arith
below_inside n (v ∷ us) = by_test (below_inside n us) (nat_lt v.times n)
  where
    by_test : place_below n us ≤ length us → (b : Bool) → cond b 0 (suc (place_below n us)) ≤ suc (length us)
    by_test h true = omega arith
    by_test h false = omega (arith, h)

-- the first n alone have a say in which the first n are

take_front : (n : ℕ) (v : Use) (vs : List Use) → take n (v ∷ take n vs) ≡ take n (v ∷ vs)
take_front zero v vs = refl
take_front (suc n) v vs = ap (λ (xs : List Use). v ∷ xs) (take-take n (suc n) vs (omega arith))

kept_in : (n : ℕ) (u : Use) (vs : List Use) → take n (ranked_in u (take n vs)) ≡ take n (ranked_in u vs)
kept_in zero u vs = refl
kept_in (suc n) u [] = refl
kept_in (suc n) u (v ∷ vs) = by_test (kept_in n u vs) (nat_lt v.times u.times)
  where
    by_test : take n (ranked_in u (take n vs)) ≡ take n (ranked_in u vs) → (b : Bool)
        → take (suc n) (cond b (u ∷ v ∷ take n vs) (v ∷ ranked_in u (take n vs))) ≡ take (suc n) (cond b (u ∷ v ∷ vs) (v ∷ ranked_in u vs))
    by_test h true = ap (λ (xs : List Use). u ∷ xs) (take_front n v vs)
    by_test h false = ap (λ (xs : List Use). v ∷ xs) h

pub kept_with : (n : ℕ) (vs us : List Use) → take n (ranked_with (take n vs) us) ≡ take n (ranked_with vs us)
kept_with n vs [] = take-take n n vs (omega arith)
kept_with n vs (u ∷ us) =
    sym (kept_with n (ranked_in u (take n vs)) us) ∙ (ap (λ (xs : List Use). take n (ranked_with xs us)) (kept_in n u vs) ∙ kept_with n (ranked_in u vs) us)

-- ---- the scopes of a loop, opened and left

openings_at : (s : ℕ) (ws : List Way) (i : ℕ) (w : Way) → i < length ws → get_or ws i w ≡ w → openings s (drop i ws) ≡ opening s w ∷ openings (suc s) (drop (suc i) ws)
openings_at s [] i w lt g = absurd (let z : ⊥ = omega (arith, lt) in z)
openings_at s (v ∷ ws) zero w lt g = ap (λ (x : Way). opening s x ∷ openings (suc s) ws) g
openings_at s (v ∷ ws) (suc i) w lt g = openings_at s ws i w (omega (arith, lt)) g

pub opening_next : (ws : List Way) (i : ℕ) (w : Way) (parts : List ScopedCode) (part : ScopedCode) (all : List Code) → i < length ws → get_or ws i w ≡ w → scoped_code_of part ≡ opening i w
    → codes parts ++ openings i (drop i ws) ≡ all → codes (parts ++ part ∷ []) ++ openings (i + 1) (drop (i + 1) ws) ≡ all
opening_next ws i w parts part all lt g p e =
    let next : i + 1 ≡ suc i = omega arith in
    let rest = openings (suc i) (drop (suc i) ws) in
    ap (λ xs. xs ++ openings (i + 1) (drop (i + 1) ws)) (codes_push parts part)
    ∙ (ap (λ j. (codes parts ++ scoped_code_of part ∷ []) ++ openings j (drop j ws)) next
    ∙ (ap (λ (x : Code). (codes parts ++ x ∷ []) ++ rest) p
    ∙ (append_assoc (codes parts) (opening i w ∷ []) rest ∙ (ap (λ xs. codes parts ++ xs) (sym (openings_at i ws i w lt g)) ∙ e))))

openings_past : (s : ℕ) (ws : List Way) (i : ℕ) → length ws ≤ i → openings s (drop i ws) ≡ []
openings_past s [] zero le = refl
openings_past s [] (suc i) le = refl
openings_past s (w ∷ ws) zero le = absurd (let z : ⊥ = omega (arith, le) in z)
openings_past s (w ∷ ws) (suc i) le = openings_past s ws i (omega (arith, le))

pub opening_last : (ws : List Way) (i : ℕ) (parts : List ScopedCode) (all : List Code) → length ws ≤ i → codes parts ++ openings i (drop i ws) ≡ all → codes parts ≡ all
opening_last ws i parts all le e = sym (nil_right (codes parts)) ∙ (ap (λ xs. codes parts ++ xs) (sym (openings_past i ws i le)) ∙ e)

closings_at : (s : ℕ) (ws : List Way) (i : ℕ) → i < length ws → closings s (drop i ws) ≡ Leave s ∷ closings (suc s) (drop (suc i) ws)
closings_at s [] i lt = absurd (let z : ⊥ = omega (arith, lt) in z)
closings_at s (w ∷ ws) zero lt = refl
closings_at s (w ∷ ws) (suc i) lt = closings_at s ws i (omega (arith, lt))

pub closing_next : (ws : List Way) (i : ℕ) (parts : List ScopedCode) (all : List Code) → i < length ws → codes parts ++ closings i (drop i ws) ≡ all
    → codes (parts ++ scoped.Leave i ∷ []) ++ closings (i + 1) (drop (i + 1) ws) ≡ all
closing_next ws i parts all lt e =
    let next : i + 1 ≡ suc i = omega arith in
    let rest = closings (suc i) (drop (suc i) ws) in
    ap (λ xs. xs ++ closings (i + 1) (drop (i + 1) ws)) (codes_push parts (scoped.Leave i))
    ∙ (ap (λ j. (codes parts ++ Leave i ∷ []) ++ closings j (drop j ws)) next
    ∙ (append_assoc (codes parts) (Leave i ∷ []) rest ∙ (ap (λ xs. codes parts ++ xs) (sym (closings_at i ws i lt)) ∙ e)))

closings_past : (s : ℕ) (ws : List Way) (i : ℕ) → length ws ≤ i → closings s (drop i ws) ≡ []
closings_past s [] zero le = refl
closings_past s [] (suc i) le = refl
closings_past s (w ∷ ws) zero le = absurd (let z : ⊥ = omega (arith, le) in z)
closings_past s (w ∷ ws) (suc i) le = closings_past s ws i (omega (arith, le))

pub closing_last : (ws : List Way) (i : ℕ) (parts : List ScopedCode) (all : List Code) → length ws ≤ i → codes parts ++ closings i (drop i ws) ≡ all → codes parts ≡ all
closing_last ws i parts all le e = sym (nil_right (codes parts)) ∙ (ap (λ xs. codes parts ++ xs) (sym (closings_past i ws i le)) ∙ e)
