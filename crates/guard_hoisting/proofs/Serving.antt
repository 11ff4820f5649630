-- The scopes of a loop serve all that it loads and stores, there are at most four, and a pointer that is aimed before the loop is not assigned in it.
use Rattle.std.proofs.Common.{◌≡◌, ℕ, zero, suc, ◌<◌, ◌≤◌, Bool, true, false, cond, Option, Some, None, List, [], ◌∷◌, ◌++◌, length, refl, sym, ap, ◌∙◌, subst, arith}
use Rattle.std.specs.Prelude.{◌==◌, ◌&&◌, ◌||◌, map, nat_le, nat_lt, take}
use Rattle.std.proofs.lemmas.Bool.{eq-eqb, eqb-true, leb-true, ltb-false}
use Rattle.code_form.specs.declared.form.Kind.{Kind}
use Rattle.code_form.specs.Code.{place_fits}
use Rattle.middle_form.specs.Scoped.{Code, Nothing, Do, Load, Store, LoadBy, StoreBy, Aim, Leave, Loose, Call, Fail, Then, Choose, Loop, Block, Exit}
use Rattle.middle_form.specs.Discipline.{writes}
use Rattle.guard_hoisting.specs.declared.ways.Way.{Way}
use Rattle.guard_hoisting.specs.declared.ways.Way.TheVariants.{Fixed, Own, Shared}
use Rattle.guard_hoisting.specs.declared.ways.Use.{Use}
use Rattle.guard_hoisting.specs.Ways.{assigns, chosen, first_way, fitting, has_loop, is_closed, is_quiet, is_through, most_left, ranked_in, ranked_with, scope_in, serves, settled, settled_way, used_again, uses_with, ways_for, ways_of, with_use}
use Rattle.guard_hoisting.proofs.Steady.{AllReach, Calm, CalmWay, EachWay, Fits, FitsWay, IsServed, each_less}
use Rattle.guard_hoisting.proofs.Tests.{and_left, and_right}

-- ---- which uses serve a cell

-- the way of one of these uses serves it
abbrev serve_some : List Use → ℕ → Option ℕ → ℕ → Bool
serve_some [] r off disp = false
serve_some (u ∷ us) r off disp = serves u.way r off disp || serve_some us r off disp

abbrev AreServed : List Use → ℕ → Option ℕ → ℕ → Type 0
AreServed us r off disp = serve_some us r off disp ≡ true

same_register : (r : ℕ) → (r == r) ≡ true
same_register r = eq-eqb r r refl

or_true : (a : Bool) → (a || true) ≡ true
or_true true = refl
or_true false = refl

-- what holds of the way of each of some uses
abbrev pub EachUse : (Way → Type 0) → List Use → Type 0
EachUse S [] = Unit {0}
EachUse S (u ∷ us) = S u.way × EachUse S us

-- one of two
either_one : (a b c d : Bool) → (a ≡ true → c ≡ true) → (b ≡ true → d ≡ true) → (a || b) ≡ true → (c || d) ≡ true
either_one true b c d f g h = ap (λ x. x || d) (f refl)
either_one false b c d f g h = ap (λ x. c || x) (g h) ∙ or_true c

first_serves : (r : ℕ) (off : Option ℕ) (disp : ℕ) → serves (first_way r off disp) r off disp ≡ true
first_serves r None disp = ap (λ b. b && (disp == disp)) (same_register r) ∙ same_register disp
first_serves r (Some d) disp = same_register r

-- a further use of a register serves its cell
again_serves : (w : Way) (r : ℕ) (off : Option ℕ) (disp : ℕ) → serves (cond (serves w r off disp) w (Own r)) r off disp ≡ true
again_serves w r off disp = by_test (serves w r off disp) refl
  where
    by_test : (b : Bool) → serves w r off disp ≡ b → serves (cond b w (Own r)) r off disp ≡ true
    by_test true e = e
    by_test false e = same_register r

-- ... and all that it served
way_of_register : (w : Way) (r q : ℕ) (off : Option ℕ) (disp : ℕ) → is_through w r ≡ true → serves w q off disp ≡ true → (q == r) ≡ true
way_of_register (Fixed p e) r q None disp h v = eq-eqb q r (eqb-true q p (and_left (q == p) (disp == e) v) ∙ sym (eqb-true r p h))
way_of_register (Fixed p e) r q (Some d) disp h v = absurd (cc v)
way_of_register (Own p) r q off disp h v = eq-eqb q r (eqb-true q p v ∙ sym (eqb-true r p h))
way_of_register Shared r q off disp h v = absurd (cc h)

still_serves : (w : Way) (r : ℕ) (off : Option ℕ) (disp q : ℕ) (other : Option ℕ) (cell : ℕ) → is_through w r ≡ true → serves w q other cell ≡ true
    → serves (cond (serves w r off disp) w (Own r)) q other cell ≡ true
still_serves w r off disp q other cell h v = by_test (serves w r off disp)
  where
    by_test : (b : Bool) → serves (cond b w (Own r)) q other cell ≡ true
    by_test true = v
    by_test false = way_of_register w r q other cell h v

use_serves : (r : ℕ) (off : Option ℕ) (disp : ℕ) (us : List Use) → AreServed (with_use r off disp us) r off disp
use_serves r off disp [] = ap (λ b. b || false) (first_serves r off disp)
use_serves r off disp (u ∷ us) = by_test (use_serves r off disp us) (is_through u.way r)
  where
    by_test : AreServed (with_use r off disp us) r off disp → (b : Bool) → AreServed (cond b (used_again u r off disp ∷ us) (u ∷ with_use r off disp us)) r off disp
    by_test h true = ap (λ b. b || serve_some us r off disp) (again_serves u.way r off disp)
    by_test h false = ap (λ b. serves u.way r off disp || b) h ∙ or_true (serves u.way r off disp)

use_keeps : (r : ℕ) (off : Option ℕ) (disp : ℕ) (us : List Use) (q : ℕ) (other : Option ℕ) (cell : ℕ) → AreServed us q other cell → AreServed (with_use r off disp us) q other cell
use_keeps r off disp [] q other cell h = absurd (cc h)
use_keeps r off disp (u ∷ us) q other cell h = by_test (use_keeps r off disp us q other cell) (is_through u.way r) refl h
  where
    by_test : (AreServed us q other cell → AreServed (with_use r off disp us) q other cell) → (b : Bool) → is_through u.way r ≡ b → AreServed (u ∷ us) q other cell
        → AreServed (cond b (used_again u r off disp ∷ us) (u ∷ with_use r off disp us)) q other cell
    by_test k true e h =
        either_one (serves u.way q other cell) (serve_some us q other cell) (serves (cond (serves u.way r off disp) u.way (Own r)) q other cell) (serve_some us q other cell)
        (still_serves u.way r off disp q other cell e) (λ x. x) h
    by_test k false e h =
        either_one (serves u.way q other cell) (serve_some us q other cell) (serves u.way q other cell) (serve_some (with_use r off disp us) q other cell) (λ x. x) k h

uses_keep : (a : Code) (us : List Use) (q : ℕ) (other : Option ℕ) (cell : ℕ) → AreServed us q other cell → AreServed (uses_with a us) q other cell
uses_keep Nothing us q other cell h = h
uses_keep (Do o) us q other cell h = h
uses_keep (Load to s r off disp) us q other cell h = use_keeps r off disp us q other cell h
uses_keep (Store s r off disp from) us q other cell h = use_keeps r off disp us q other cell h
uses_keep (LoadBy to s r off disp) us q other cell h = h
uses_keep (StoreBy s r off disp from) us q other cell h = h
uses_keep (Aim s r off disp) us q other cell h = h
uses_keep (Leave s) us q other cell h = h
uses_keep (Loose s) us q other cell h = h
uses_keep (Call to f args) us q other cell h = h
uses_keep (Fail a) us q other cell h = h
uses_keep (Then a b) us q other cell h = uses_keep b (uses_with a us) q other cell (uses_keep a us q other cell h)
uses_keep (Choose c a b) us q other cell h = uses_keep b (uses_with a us) q other cell (uses_keep a us q other cell h)
uses_keep (Loop a c b) us q other cell h = uses_keep b (uses_with a us) q other cell (uses_keep a us q other cell h)
uses_keep (Block a) us q other cell h = uses_keep a us q other cell h
uses_keep (Exit k) us q other cell h = h

pub reach_more : (Q R : ℕ → Option ℕ → ℕ → Type 0) → ((r : ℕ) (off : Option ℕ) (disp : ℕ) → Q r off disp → R r off disp) → (a : Code) → AllReach Q a → AllReach R a
reach_more Q R f Nothing h = tt
reach_more Q R f (Do o) h = tt
reach_more Q R f (Load to s r off disp) h = f r off disp h
reach_more Q R f (Store s r off disp from) h = f r off disp h
reach_more Q R f (LoadBy to s r off disp) h = tt
reach_more Q R f (StoreBy s r off disp from) h = tt
reach_more Q R f (Aim s r off disp) h = tt
reach_more Q R f (Leave s) h = tt
reach_more Q R f (Loose s) h = tt
reach_more Q R f (Call to g args) h = tt
reach_more Q R f (Fail a) h = tt
reach_more Q R f (Then a b) h = (reach_more Q R f a h.0, reach_more Q R f b h.1)
reach_more Q R f (Choose c a b) h = (reach_more Q R f a h.0, reach_more Q R f b h.1)
reach_more Q R f (Loop a c b) h = (reach_more Q R f a h.0, reach_more Q R f b h.1)
reach_more Q R f (Block a) h = reach_more Q R f a h
reach_more Q R f (Exit k) h = tt

-- the uses of code serve all that it reaches
uses_serve : (a : Code) (us : List Use) → AllReach (AreServed (uses_with a us)) a
uses_serve Nothing us = tt
uses_serve (Do o) us = tt
uses_serve (Load to s r off disp) us = use_serves r off disp us
uses_serve (Store s r off disp from) us = use_serves r off disp us
uses_serve (LoadBy to s r off disp) us = tt
uses_serve (StoreBy s r off disp from) us = tt
uses_serve (Aim s r off disp) us = tt
uses_serve (Leave s) us = tt
uses_serve (Loose s) us = tt
uses_serve (Call to f args) us = tt
uses_serve (Fail a) us = tt
uses_serve (Then a b) us =
    (reach_more (AreServed (uses_with a us)) (AreServed (uses_with b (uses_with a us))) (uses_keep b (uses_with a us)) a (uses_serve a us), uses_serve b (uses_with a us))
uses_serve (Choose c a b) us =
    (reach_more (AreServed (uses_with a us)) (AreServed (uses_with b (uses_with a us))) (uses_keep b (uses_with a us)) a (uses_serve a us), uses_serve b (uses_with a us))
uses_serve (Loop a c b) us =
    (reach_more (AreServed (uses_with a us)) (AreServed (uses_with b (uses_with a us))) (uses_keep b (uses_with a us)) a (uses_serve a us), uses_serve b (uses_with a us))
uses_serve (Block a) us = uses_serve a us
uses_serve (Exit k) us = tt

-- ---- ways that are settled

module _ (ks : List Kind) (a b : Code) where
  -- what a way serves it serves when it is settled
  settled_serves : (w : Way) (n r : ℕ) (off : Option ℕ) (disp : ℕ) → serves w r off disp ≡ true → serves (settled_way ks a b w n).way r off disp ≡ true
  settled_serves (Fixed q e) n r None disp h = by_tests (assigns a b q) (place_fits ks q None)
    where
      mine : (r == q) ≡ true
      mine = and_left (r == q) (disp == e) h

      by_tests : (x y : Bool) → serves (cond {A = Use} x (record { way = Own q; times = 0 }) (cond {A = Use} y (record { way = Fixed q e; times = n }) (record { way = Own q; times = n }))).way r None disp ≡ true
      by_tests true y = mine
      by_tests false true = h
      by_tests false false = mine
  settled_serves (Fixed q e) n r (Some d) disp h = absurd (cc h)
  settled_serves (Own q) n r off disp h = by_test (assigns a b q)
    where
      by_test : (x : Bool) → serves (cond {A = Use} x (record { way = Own q; times = 0 }) (record { way = Own q; times = n })).way r off disp ≡ true
      by_test true = h
      by_test false = h
  settled_serves Shared n r off disp h = refl

  all_settled : (us : List Use) (r : ℕ) (off : Option ℕ) (disp : ℕ) → AreServed us r off disp → AreServed (map (settled ks a b) us) r off disp
  all_settled [] r off disp h = h
  all_settled (u ∷ us) r off disp h =
      either_one (serves u.way r off disp) (serve_some us r off disp) (serves (settled_way ks a b u.way u.times).way r off disp) (serve_some (map (settled ks a b) us) r off disp)
      (settled_serves u.way u.times r off disp) (all_settled us r off disp) h

  -- a pointer that is aimed before the loop refers to something, and is not assigned
  abbrev Sound : Way → Type 0
  Sound w = FitsWay ks w × CalmWay (writes (Loop a 0 b)) w

  settled_sound : (w : Way) (n : ℕ) → Sound (settled_way ks a b w n).way
  settled_sound (Fixed q e) n = by_tests (assigns a b q) refl (place_fits ks q None) refl
    where
      by_tests : (x : Bool) → assigns a b q ≡ x → (y : Bool) → place_fits ks q None ≡ y
          → Sound (cond {A = Use} x (record { way = Own q; times = 0 }) (cond {A = Use} y (record { way = Fixed q e; times = n }) (record { way = Own q; times = n }))).way
      by_tests true p y z = (tt, tt)
      by_tests false p true z = (z, p)
      by_tests false p false z = (tt, tt)
  settled_sound (Own q) n = by_test (assigns a b q)
    where
      by_test : (x : Bool) → Sound (cond {A = Use} x (record { way = Own q; times = 0 }) (record { way = Own q; times = n })).way
      by_test true = (tt, tt)
      by_test false = (tt, tt)
  settled_sound Shared n = (tt, tt)

  pub all_sound : (us : List Use) → EachUse Sound (map (settled ks a b) us)
  all_sound [] = tt
  all_sound (u ∷ us) = (settled_sound u.way u.times, all_sound us)

-- ---- what holds of each use holds of each way that is chosen

module _ (S : Way → Type 0) where
  ranked_in_each : (u : Use) (vs : List Use) → S u.way → EachUse S vs → EachUse S (ranked_in u vs)
  ranked_in_each u [] p h = (p, tt)
  ranked_in_each u (v ∷ vs) p h = by_test (ranked_in_each u vs p h.1) (nat_lt v.times u.times)
    where
      by_test : EachUse S (ranked_in u vs) → (x : Bool) → EachUse S (cond x (u ∷ v ∷ vs) (v ∷ ranked_in u vs))
      by_test k true = (p, h)
      by_test k false = (h.0, k)

  ranked_each : (us vs : List Use) → EachUse S us → EachUse S vs → EachUse S (ranked_with vs us)
  ranked_each [] vs p h = h
  ranked_each (u ∷ us) vs p h = ranked_each us (ranked_in u vs) p.1 (ranked_in_each u vs p.0 h)

  take_each : (n : ℕ) (us : List Use) → EachUse S us → EachUse S (take n us)
  take_each zero us h = tt
  take_each (suc n) [] h = tt
  take_each (suc n) (u ∷ us) h = (h.0, take_each n us h.1)

  ways_each : (us : List Use) → EachUse S us → EachWay S (ways_of us)
  ways_each [] h = tt
  ways_each (u ∷ us) h = (h.0, ways_each us h.1)

  shared_each : (ws : List Way) → S Shared → EachWay S ws → EachWay S (ws ++ Shared ∷ [])
  shared_each [] z h = (z, tt)
  shared_each (w ∷ ws) z h = (h.0, shared_each ws z h.1)

  pub chosen_each : (us : List Use) → S Shared → EachUse S us → EachWay S (chosen us)
  chosen_each us z h = by_test (nat_lt 4 (length us))
    where
      by_test : (x : Bool) → EachWay S (cond x (ways_of (take 3 (ranked_with [] us)) ++ Shared ∷ []) (ways_of us))
      by_test true = shared_each (ways_of (take 3 (ranked_with [] us))) z (ways_each (take 3 (ranked_with [] us)) (take_each 3 (ranked_with [] us) (ranked_each us [] h tt)))
      by_test false = ways_each us h

-- ---- a scope serves what is reached

one_serves : (us : List Use) (r : ℕ) (off : Option ℕ) (disp : ℕ) → AreServed us r off disp → IsServed (ways_of us) r off disp
one_serves [] r off disp h = absurd (cc h)
one_serves (u ∷ us) r off disp h = by_test (one_serves us r off disp) (serves u.way r off disp) h
  where
    by_test : (AreServed us r off disp → IsServed (ways_of us) r off disp) → (x : Bool) → (x || serve_some us r off disp) ≡ true → cond x 0 (suc (scope_in (ways_of us) r off disp)) < suc (length (ways_of us))
    by_test k true h = omega arith
    by_test k false h = let lt = k h in omega (arith, lt)

shared_serves : (ws : List Way) (r : ℕ) (off : Option ℕ) (disp : ℕ) → IsServed (ws ++ Shared ∷ []) r off disp
shared_serves [] r off disp = omega arith
shared_serves (w ∷ ws) r off disp = by_test (shared_serves ws r off disp) (serves w r off disp)
  where
    by_test : IsServed (ws ++ Shared ∷ []) r off disp → (x : Bool) → cond x 0 (suc (scope_in (ws ++ Shared ∷ []) r off disp)) < suc (length (ws ++ Shared ∷ []))
    by_test k true = omega arith
    by_test k false = omega (arith, k)

chosen_serves : (us : List Use) (r : ℕ) (off : Option ℕ) (disp : ℕ) → AreServed us r off disp → IsServed (chosen us) r off disp
chosen_serves us r off disp h = by_test (nat_lt 4 (length us))
  where
    by_test : (x : Bool) → IsServed (cond x (ways_of (take 3 (ranked_with [] us)) ++ Shared ∷ []) (ways_of us)) r off disp
    by_test true = shared_serves (ways_of (take 3 (ranked_with [] us))) r off disp
    by_test false = one_serves us r off disp h

-- ---- at most four

length_ways : (us : List Use) → length (ways_of us) ≡ length us
length_ways [] = refl
length_ways (u ∷ us) = ap suc (length_ways us)

length_more : (ws : List Way) (w : Way) → length (ws ++ w ∷ []) ≡ suc (length ws)
length_more [] w = refl
length_more (v ∷ ws) w = ap suc (length_more ws w)

few_taken : (n : ℕ) (us : List Use) → length (take n us) ≤ n
few_taken zero us = omega arith
few_taken (suc n) [] = omega arith
few_taken (suc n) (u ∷ us) = let h = few_taken n us in omega (arith, h)

pub few_chosen : (us : List Use) → length (chosen us) ≤ 4
few_chosen us = by_test (nat_lt 4 (length us)) refl
  where
    by_test : (x : Bool) → nat_lt 4 (length us) ≡ x → length (cond x (ways_of (take 3 (ranked_with [] us)) ++ Shared ∷ []) (ways_of us)) ≤ 4
    by_test true e =
        let vs = take 3 (ranked_with [] us) in
        omega (arith, length_more (ways_of vs) Shared, length_ways vs, few_taken 3 (ranked_with [] us))
    by_test false e = let le = ltb-false 4 (length us) e in omega (arith, length_ways us, le)

-- ---- all of it, of a loop that has ways

-- what is promised of the ways of a loop's scopes
pub record IsWellServed (ks : List Kind) (a b : Code) (ws : List Way) : Type 0 where
  pub few : length ws ≤ 4
  pub quiet_test : is_quiet a ≡ true
  pub quiet_body : is_quiet b ≡ true
  pub test_left : most_left a ≤ 1
  pub body_left : most_left b ≤ 1
  pub fit : Fits ks ws
  pub calm : Calm (writes (Loop a 0 b)) ws
  pub test_served : AllReach (IsServed ws) a
  pub body_served : AllReach (IsServed ws) b

chosen_all : (ks : List Kind) (a b : Code) → is_closed a b ≡ true → IsWellServed ks a b (chosen (map (settled ks a b) (uses_with b (uses_with a []))))
chosen_all ks a b h =
    let quiet = and_left (is_quiet a && is_quiet b) (nat_le (most_left a) 1 && nat_le (most_left b) 1) h in
    let left = and_right (is_quiet a && is_quiet b) (nat_le (most_left a) 1 && nat_le (most_left b) 1) h in
    let us = uses_with b (uses_with a []) in
    let sound = chosen_each (Sound ks a b) (map (settled ks a b) us) (tt, tt) (all_sound ks a b us) in
    record {
      few = few_chosen (map (settled ks a b) us);
      quiet_test = and_left (is_quiet a) (is_quiet b) quiet;
      quiet_body = and_right (is_quiet a) (is_quiet b) quiet;
      test_left = leb-true (most_left a) 1 (and_left (nat_le (most_left a) 1) (nat_le (most_left b) 1) left);
      body_left = leb-true (most_left b) 1 (and_right (nat_le (most_left a) 1) (nat_le (most_left b) 1) left);
      fit = each_less (Sound ks a b) (FitsWay ks) (λ w h. h.0) (chosen (map (settled ks a b) us)) sound;
      calm = each_less (Sound ks a b) (CalmWay (writes (Loop a 0 b))) (λ w h. h.1) (chosen (map (settled ks a b) us)) sound;
      test_served = reach_more (AreServed us) (IsServed (chosen (map (settled ks a b) us))) (λ r off disp v. chosen_serves (map (settled ks a b) us) r off disp (all_settled ks a b us r off disp v)) a
          (reach_more (AreServed (uses_with a [])) (AreServed us) (uses_keep b (uses_with a [])) a (uses_serve a []));
      body_served = reach_more (AreServed us) (IsServed (chosen (map (settled ks a b) us))) (λ r off disp v. chosen_serves (map (settled ks a b) us) r off disp (all_settled ks a b us r off disp v)) b (uses_serve b (uses_with a []));
    }

pub ways_serve : (ks : List Kind) (a b : Code) (ws : List Way) → ways_for ks a b ≡ Some ws → IsWellServed ks a b ws
ways_serve ks a b ws e = by_closed (is_closed a b) refl e
  where
    us : List Use
    us = uses_with b (uses_with a [])

    by_many : is_closed a b ≡ true → (x : Bool) → cond x None (Some (chosen (map (settled ks a b) us))) ≡ Some ws → IsWellServed ks a b ws
    by_many h true e = absurd (cc e)
    by_many h false e = let same : chosen (map (settled ks a b) us) ≡ ws = cc e in subst (IsWellServed ks a b) same (chosen_all ks a b h)

    by_closed : (x : Bool) → is_closed a b ≡ x → cond x (fitting ks a b us) None ≡ Some ws → IsWellServed ks a b ws
    by_closed true h e = by_many h (nat_lt 4 (length us) && (has_loop a || has_loop b)) e
    by_closed false h e = absurd (cc e)
