-- The places of the registers that are used, in a table.
use Rattle.std.proofs.Common.{◌≡◌, ℕ, suc, ◌+◌, ◌<◌, ◌≤◌, Bool, true, false, cond, Option, Some, None, List, [], ◌∷◌, ◌++◌, length, refl, sym, ap, ◌∙◌, subst, arith, inl, inr, HashMap, FoldHasher, BuildHasherDefault}
use Rattle.std.specs.Prelude.{◌==◌, nat_eq, unwrap_or}
use Rattle.std.specs.HashMap.{get}
use Rattle.std.proofs.lemmas.Bool.{cases_eq, cases_lt, eq-eqb, eqb-true, le-ltb, lt-ltb, ne_eqb}
use Rattle.std.proofs.lemmas.List.{length_push}
use Rattle.guard_hoisting.specs.declared.ways.Use.{Use}
use Rattle.guard_hoisting.specs.declared.ways.Way.{Way}
use Rattle.guard_hoisting.specs.declared.ways.Way.TheVariants.{Fixed, Own, Shared}
use Rattle.guard_hoisting.specs.Building.{ArePlaces, known_place, place_through}
use Rattle.guard_hoisting.specs.Ways.{first_way, is_through, serves, used_again, with_use}

known_in : (p n : ℕ) → p < n → known_place p n ≡ Some p
known_in p n h = ap (λ (b : Bool). cond b (Some p) None) (lt-ltb p n h)

known_out : (p n : ℕ) → n ≤ p → known_place p n ≡ None
known_out p n h = ap (λ (b : Bool). cond b (Some p) None) (le-ltb p n h)

-- what the table answers, where that is a place
pub found : (p n : ℕ) → unwrap_or (known_place p n) n < n → (p < n) × (unwrap_or (known_place p n) n ≡ p)
found p n h = elim (cases_lt p n) [
  | inl lt ↦ (lt, ap (λ (o : Option ℕ). unwrap_or o n) (known_in p n lt))
  | inr ge ↦ absurd (let e : unwrap_or (known_place p n) n ≡ n = ap (λ (o : Option ℕ). unwrap_or o n) (known_out p n ge) in let z : ⊥ = omega (arith, e, h) in z)
]

-- ... and where it has none
pub missing : (p n : ℕ) → n ≤ unwrap_or (known_place p n) n → (n ≤ p) × (unwrap_or (known_place p n) n ≡ n)
missing p n h = elim (cases_lt p n) [
  | inl lt ↦ absurd (let e : unwrap_or (known_place p n) n ≡ p = ap (λ (o : Option ℕ). unwrap_or o n) (known_in p n lt) in let z : ⊥ = omega (arith, e, h, lt) in z)
  | inr ge ↦ (ge, ap (λ (o : Option ℕ). unwrap_or o n) (known_out p n ge))
]

-- ---- a further use of a register

own : (w : Way) (r q : ℕ) → is_through w r ≡ true → (q == r) ≡ is_through w q
own (Fixed p e) r q h = ap (λ (x : ℕ). q == x) (eqb-true r p h)
own (Own p) r q h = ap (λ (x : ℕ). q == x) (eqb-true r p h)
own Shared r q h = absurd (cc h)

same_way : (w : Way) (r q : ℕ) → is_through w r ≡ true → (b : Bool) → is_through (cond b w (Own r)) q ≡ is_through w q
same_way w r q h true = refl
same_way w r q h false = own w r q h

through_again : (q r : ℕ) (off : Option ℕ) (disp : ℕ) (us : List Use) → place_through r us < length us → place_through q (with_use r off disp us) ≡ place_through q us
through_again q r off disp [] lt = absurd (let z : ⊥ = omega (arith, lt) in z)
through_again q r off disp (u ∷ us) lt = by_test (through_again q r off disp us) (is_through u.way r) refl lt
  where
    by_test : (place_through r us < length us → place_through q (with_use r off disp us) ≡ place_through q us) → (b : Bool) → is_through u.way r ≡ b
        → cond b 0 (suc (place_through r us)) < suc (length us) → place_through q (cond b (used_again u r off disp ∷ us) (u ∷ with_use r off disp us)) ≡ place_through q (u ∷ us)
    by_test h true e l = ap (λ (b : Bool). cond b 0 (suc (place_through q us))) (same_way u.way r q e (serves u.way r off disp))
    by_test h false e l = ap (λ (n : ℕ). cond (is_through u.way q) 0 (suc n)) (h (omega (arith, l)))

length_again : (r : ℕ) (off : Option ℕ) (disp : ℕ) (us : List Use) → place_through r us < length us → length (with_use r off disp us) ≡ length us
length_again r off disp [] lt = absurd (let z : ⊥ = omega (arith, lt) in z)
length_again r off disp (u ∷ us) lt = by_test (length_again r off disp us) (is_through u.way r) lt
  where
    by_test : (place_through r us < length us → length (with_use r off disp us) ≡ length us) → (b : Bool)
        → cond b 0 (suc (place_through r us)) < suc (length us) → length (cond b (used_again u r off disp ∷ us) (u ∷ with_use r off disp us)) ≡ suc (length us)
    by_test h true l = refl
    by_test h false l = ap suc (h (omega (arith, l)))

abbrev Table : Type 0
Table = HashMap ℕ ℕ (BuildHasherDefault FoldHasher)

pub places_again : (m : Table) (us : List Use) (r : ℕ) (off : Option ℕ) (disp : ℕ) → ArePlaces m us → place_through r us < length us → ArePlaces m (with_use r off disp us)
places_again m us r off disp h lt q = h q ∙ λ i. known_place (sym (through_again q r off disp us lt) i) (sym (length_again r off disp us lt) i)

-- ---- the first use of a register

kept_place : (q : ℕ) (us : List Use) (u : Use) → place_through q us < length us → place_through q (us ++ u ∷ []) ≡ place_through q us
kept_place q [] u lt = absurd (let z : ⊥ = omega (arith, lt) in z)
kept_place q (v ∷ us) u lt = by_test (kept_place q us u) (is_through v.way q) lt
  where
    by_test : (place_through q us < length us → place_through q (us ++ u ∷ []) ≡ place_through q us) → (b : Bool)
        → cond b 0 (suc (place_through q us)) < suc (length us) → cond b 0 (suc (place_through q (us ++ u ∷ []))) ≡ cond b 0 (suc (place_through q us))
    by_test h true l = refl
    by_test h false l = ap suc (h (omega (arith, l)))

new_place : (q : ℕ) (us : List Use) (u : Use) → is_through u.way q ≡ true → length us ≤ place_through q us → place_through q (us ++ u ∷ []) ≡ length us
new_place q [] u e le = ap (λ (b : Bool). cond b 0 1) e
new_place q (v ∷ us) u e le = by_test (new_place q us u e) (is_through v.way q) le
  where
    by_test : (length us ≤ place_through q us → place_through q (us ++ u ∷ []) ≡ length us) → (b : Bool)
        → suc (length us) ≤ cond b 0 (suc (place_through q us)) → cond b 0 (suc (place_through q (us ++ u ∷ []))) ≡ suc (length us)
    by_test h true l = absurd (let z : ⊥ = omega (arith, l) in z)
    by_test h false l = ap suc (h (omega (arith, l)))

still_behind : (q : ℕ) (us : List Use) (u : Use) → is_through u.way q ≡ false → length us ≤ place_through q us → suc (length us) ≤ place_through q (us ++ u ∷ [])
still_behind q [] u e le = let w : place_through q (u ∷ []) ≡ 1 = ap (λ (b : Bool). cond b 0 1) e in omega (arith, w)
still_behind q (v ∷ us) u e le = by_test (still_behind q us u e) (is_through v.way q) le
  where
    by_test : (length us ≤ place_through q us → suc (length us) ≤ place_through q (us ++ u ∷ [])) → (b : Bool)
        → suc (length us) ≤ cond b 0 (suc (place_through q us)) → suc (suc (length us)) ≤ cond b 0 (suc (place_through q (us ++ u ∷ [])))
    by_test h true l = absurd (let z : ⊥ = omega (arith, l) in z)
    by_test h false l = let k = h (omega (arith, l)) in omega (arith, k)

first_through : (r : ℕ) (off : Option ℕ) (disp q : ℕ) → is_through (first_way r off disp) q ≡ (q == r)
first_through r None disp q = refl
first_through r (Some d) disp q = refl

-- register r has its place behind those that are there
pub places_new : (m n : Table) (us : List Use) (r : ℕ) (off : Option ℕ) (disp place : ℕ) (u : Use) → u.way ≡ first_way r off disp → place ≡ length us
    → ((q : ℕ) → get nat_eq n q ≡ cond (r == q) (Some place) (get nat_eq m q)) → ArePlaces m us → length us ≤ place_through r us → ArePlaces n (us ++ u ∷ [])
places_new m n us r off disp place u way at updates h le q =
    let more : length (us ++ u ∷ []) ≡ length us + 1 = length_push us u in
    let through : is_through u.way q ≡ (q == r) = ap (λ (w : Way). is_through w q) way ∙ first_through r off disp q in
    elim (cases_eq q r) [
      | inl e ↦
          let here : place_through q (us ++ u ∷ []) ≡ length us = new_place q us u (through ∙ eq-eqb q r e) (subst (λ (x : ℕ). length us ≤ place_through x us) (sym e) le) in
          let inside : place_through q (us ++ u ∷ []) < length (us ++ u ∷ []) = omega (arith, here, more) in
          updates q ∙ (ap (λ (b : Bool). cond b (Some place) (get nat_eq m q)) (eq-eqb r q (sym e)) ∙ (ap Some (at ∙ sym here) ∙ sym (known_in (place_through q (us ++ u ∷ [])) (length (us ++ u ∷ [])) inside)))
      | inr apart ↦
          updates q ∙ (ap (λ (b : Bool). cond b (Some place) (get nat_eq m q)) (ne_eqb r q (λ e. apart (sym e))) ∙ (h q ∙ elim (cases_lt (place_through q us) (length us)) [
            | inl lt ↦
                let same : place_through q (us ++ u ∷ []) ≡ place_through q us = kept_place q us u lt in
                known_in (place_through q us) (length us) lt ∙ (ap Some (sym same) ∙ sym (known_in (place_through q (us ++ u ∷ [])) (length (us ++ u ∷ [])) (omega (arith, same, lt, more))))
            | inr ge ↦
                let behind : suc (length us) ≤ place_through q (us ++ u ∷ []) = still_behind q us u (through ∙ ne_eqb q r apart) ge in
                known_out (place_through q us) (length us) ge ∙ sym (known_out (place_through q (us ++ u ∷ [])) (length (us ++ u ∷ [])) (omega (arith, behind, more)))
          ]))
    ]
