-- Nothing is aimed at that the code did not load, store or aim at.
use Rattle.std.proofs.Common.{◌≡◌, ℕ, suc, Bool, true, false, cond, Option, Some, None, List, [], ◌∷◌, ◌++◌, refl, subst}
use Rattle.std.specs.Prelude.{◌&&◌, ◌||◌, length, map, nat_lt}
use Rattle.code_form.specs.declared.form.Kind.{Kind}
use Rattle.code_form.specs.Code.{place_fits}
use Rattle.middle_form.specs.Scoped.{Code, Nothing, Do, Load, Store, LoadBy, StoreBy, Aim, Leave, Loose, Call, Fail, Then, Choose, Loop, Block, Exit}
use Rattle.scoped_building.specs.Building.{in_order}
use Rattle.scoped_building.specs.Places.{AllPlaces}
use Rattle.guard_hoisting.specs.declared.ways.Way.{Way}
use Rattle.guard_hoisting.specs.declared.ways.Way.TheVariants.{Fixed, Own, Shared}
use Rattle.guard_hoisting.specs.declared.ways.Use.{Use}
use Rattle.guard_hoisting.specs.Ways.{assigns, chosen, first_way, fitting, has_loop, is_closed, is_through, scope_in, serves, settled, settled_way, used_again, uses_with, way_at, ways_for, with_use}
use Rattle.guard_hoisting.specs.Hoisted.{closings, hoisted, inside, lifted, lifted_or, load_as, moved, open_behind, opening, openings, store_as, ways_behind}
use Rattle.guard_hoisting.proofs.Serving.{EachUse, chosen_each}
use Rattle.guard_hoisting.proofs.Steady.{EachWay}

module _ (B : ℕ → Option ℕ → ℕ → Bool) where
  abbrev Q : ℕ → Option ℕ → ℕ → Type 0
  Q r off disp = B r off disp ≡ true

  -- a cell that is aimed at before the loop
  abbrev IsPlaced : Way → Type 0
  IsPlaced (Fixed r disp) = Q r None disp
  IsPlaced (Own r) = Unit {0}
  IsPlaced Shared = Unit {0}

  abbrev P : List Code → Type 0
  P xs = AllPlaces B (in_order xs)

  append_places : (xs ys : List Code) → P xs → P ys → P (xs ++ ys)
  append_places [] ys h k = k
  append_places (x ∷ xs) ys h k = (h.0, append_places xs ys h.1 k)

  -- ---- uses

  first_placed : (r : ℕ) (off : Option ℕ) (disp : ℕ) → Q r off disp → IsPlaced (first_way r off disp)
  first_placed r None disp h = h
  first_placed r (Some d) disp h = tt

  again_placed : (w : Way) (r : ℕ) (b : Bool) → IsPlaced w → IsPlaced (cond b w (Own r))
  again_placed w r true h = h
  again_placed w r false h = tt

  use_placed : (r : ℕ) (off : Option ℕ) (disp : ℕ) (us : List Use) → Q r off disp → EachUse IsPlaced us → EachUse IsPlaced (with_use r off disp us)
  use_placed r off disp [] q h = (first_placed r off disp q, tt)
  use_placed r off disp (u ∷ us) q h = by_test (use_placed r off disp us q h.1) (is_through u.way r)
    where
      by_test : EachUse IsPlaced (with_use r off disp us) → (b : Bool) → EachUse IsPlaced (cond b (used_again u r off disp ∷ us) (u ∷ with_use r off disp us))
      by_test k true = (again_placed u.way r (serves u.way r off disp) h.0, h.1)
      by_test k false = (h.0, k)

  uses_placed : (a : Code) (us : List Use) → AllPlaces B a → EachUse IsPlaced us → EachUse IsPlaced (uses_with a us)
  uses_placed Nothing us p h = h
  uses_placed (Do o) us p h = h
  uses_placed (Load to s r off disp) us p h = use_placed r off disp us p h
  uses_placed (Store s r off disp from) us p h = use_placed r off disp us p h
  uses_placed (LoadBy to s r off disp) us p h = h
  uses_placed (StoreBy s r off disp from) us p h = h
  uses_placed (Aim s r off disp) us p h = h
  uses_placed (Leave s) us p h = h
  uses_placed (Loose s) us p h = h
  uses_placed (Call to f args) us p h = h
  uses_placed (Fail a) us p h = h
  uses_placed (Then a b) us p h = uses_placed b (uses_with a us) p.1 (uses_placed a us p.0 h)
  uses_placed (Choose c a b) us p h = uses_placed b (uses_with a us) p.1 (uses_placed a us p.0 h)
  uses_placed (Loop a c b) us p h = uses_placed b (uses_with a us) p.1 (uses_placed a us p.0 h)
  uses_placed (Block a) us p h = uses_placed a us p h
  uses_placed (Exit k) us p h = h

  settled_placed : (ks : List Kind) (a b : Code) (w : Way) (n : ℕ) → IsPlaced w → IsPlaced (settled_way ks a b w n).way
  settled_placed ks a b (Fixed r disp) n h = by_tests (assigns a b r) (place_fits ks r None)
    where
      by_tests : (x y : Bool) → IsPlaced (cond {A = Use} x (record { way = Own r; times = 0 }) (cond {A = Use} y (record { way = Fixed r disp; times = n }) (record { way = Own r; times = n }))).way
      by_tests true y = tt
      by_tests false true = h
      by_tests false false = tt
  settled_placed ks a b (Own r) n h = by_test (assigns a b r)
    where
      by_test : (x : Bool) → IsPlaced (cond {A = Use} x (record { way = Own r; times = 0 }) (record { way = Own r; times = n })).way
      by_test true = tt
      by_test false = tt
  settled_placed ks a b Shared n h = tt

  all_placed : (ks : List Kind) (a b : Code) (us : List Use) → EachUse IsPlaced us → EachUse IsPlaced (map (settled ks a b) us)
  all_placed ks a b [] h = tt
  all_placed ks a b (u ∷ us) h = (settled_placed ks a b u.way u.times h.0, all_placed ks a b us h.1)

  -- ---- a loop with its scopes

  load_placed : (w : Way) (to s r : ℕ) (off : Option ℕ) (disp : ℕ) → Q r off disp → AllPlaces B (load_as w to s r off disp)
  load_placed (Fixed q e) to s r off disp h = h
  load_placed (Own q) to s r off disp h = h
  load_placed Shared to s r off disp h = h

  store_placed : (w : Way) (s r : ℕ) (off : Option ℕ) (disp from : ℕ) → Q r off disp → AllPlaces B (store_as w s r off disp from)
  store_placed (Fixed q e) s r off disp from h = h
  store_placed (Own q) s r off disp from h = h
  store_placed Shared s r off disp from h = h

  moved_placed : (ws : List Way) (a : Code) → AllPlaces B a → P (moved ws a)
  moved_placed ws Nothing p = tt
  moved_placed ws (Do o) p = (tt, tt)
  moved_placed ws (Load to s r off disp) p = (load_placed (way_at ws (scope_in ws r off disp)) to (scope_in ws r off disp) r off disp p, tt)
  moved_placed ws (Store s r off disp from) p = (store_placed (way_at ws (scope_in ws r off disp)) (scope_in ws r off disp) r off disp from p, tt)
  moved_placed ws (LoadBy to s r off disp) p = (p, tt)
  moved_placed ws (StoreBy s r off disp from) p = (p, tt)
  moved_placed ws (Aim s r off disp) p = (p, tt)
  moved_placed ws (Leave s) p = tt
  moved_placed ws (Loose s) p = (tt, tt)
  moved_placed ws (Call to f args) p = (tt, tt)
  moved_placed ws (Fail a) p = (tt, tt)
  moved_placed ws (Then a b) p = append_places (moved ws a) (moved ws b) (moved_placed ws a p.0) (moved_placed ws b p.1)
  moved_placed ws (Choose c a b) p = ((moved_placed ws a p.0, moved_placed ws b p.1), tt)
  moved_placed ws (Loop a c b) p = ((moved_placed ws a p.0, moved_placed ws b p.1), tt)
  moved_placed ws (Block a) p = (moved_placed ws a p, tt)
  moved_placed ws (Exit k) p = (tt, tt)

  opening_placed : (s : ℕ) (w : Way) → IsPlaced w → AllPlaces B (opening s w)
  opening_placed s (Fixed r disp) h = h
  opening_placed s (Own r) h = tt
  opening_placed s Shared h = tt

  openings_placed : (s : ℕ) (ws : List Way) → EachWay IsPlaced ws → P (openings s ws)
  openings_placed s [] h = tt
  openings_placed s (w ∷ ws) h = (opening_placed s w h.0, openings_placed (suc s) ws h.1)

  closings_placed : (s : ℕ) (ws : List Way) → P (closings s ws)
  closings_placed s [] = tt
  closings_placed s (w ∷ ws) = (tt, closings_placed (suc s) ws)

  lifted_placed : (ws : List Way) (a : Code) (c : ℕ) (b : Code) → EachWay IsPlaced ws → AllPlaces B (Loop a c b) → P (lifted ws a c b)
  lifted_placed ws a c b h p =
      let turn = Loop (in_order (moved ws a)) c (in_order (moved ws b)) in
      append_places (openings 0 ws) (turn ∷ closings 0 ws) (openings_placed 0 ws h) ((moved_placed ws a p.0, moved_placed ws b p.1), closings_placed 0 ws)

  -- ---- code

  inside_placed : (o : List ℕ) (a : Code) (xs : List Code) → AllPlaces B a → P xs → AllPlaces B (inside o a xs)
  inside_placed [] a xs p h = h
  inside_placed (s ∷ o) a xs p h = p

  ways_placed : (ks : List Kind) (a b : Code) (ws : List Way) → AllPlaces B a → AllPlaces B b → ways_for ks a b ≡ Some ws → EachWay IsPlaced ws
  ways_placed ks a b ws p q e = by_closed (is_closed a b) e
    where
      us : List Use
      us = uses_with b (uses_with a [])

      all : EachWay IsPlaced (chosen (map (settled ks a b) us))
      all = chosen_each IsPlaced (map (settled ks a b) us) tt (all_placed ks a b us (uses_placed b (uses_with a []) q (uses_placed a [] p tt)))

      by_many : (x : Bool) → cond x None (Some (chosen (map (settled ks a b) us))) ≡ Some ws → EachWay IsPlaced ws
      by_many true e = absurd (cc e)
      by_many false e = let same : chosen (map (settled ks a b) us) ≡ ws = cc e in subst (EachWay IsPlaced) same all

      by_closed : (x : Bool) → cond x (fitting ks a b us) None ≡ Some ws → EachWay IsPlaced ws
      by_closed true e = by_many (nat_lt 4 (length us) && (has_loop a || has_loop b)) e
      by_closed false e = absurd (cc e)

  loop_placed : (o : List ℕ) (ks : List Kind) (a : Code) (c : ℕ) (b : Code) (xs : List Code) → AllPlaces B (Loop a c b) → P xs → P (lifted_or (ways_behind o ks a b) a c b xs)
  loop_placed (s ∷ o) ks a c b xs p h = h
  loop_placed [] ks a c b xs p h = by_ways (ways_for ks a b) refl
    where
      by_ways : (w : Option (List Way)) → ways_for ks a b ≡ w → P (lifted_or w a c b xs)
      by_ways None e = h
      by_ways (Some ws) e = lifted_placed ws a c b (ways_placed ks a b ws p.0 p.1 e) p

  hoisted_placed : (ks : List Kind) (a : Code) (o : List ℕ) → AllPlaces B a → P (hoisted ks a o)
  hoisted_placed ks Nothing o p = tt
  hoisted_placed ks (Do x) o p = (tt, tt)
  hoisted_placed ks (Load to s r off disp) o p = (p, tt)
  hoisted_placed ks (Store s r off disp from) o p = (p, tt)
  hoisted_placed ks (LoadBy to s r off disp) o p = (p, tt)
  hoisted_placed ks (StoreBy s r off disp from) o p = (p, tt)
  hoisted_placed ks (Aim s r off disp) o p = (p, tt)
  hoisted_placed ks (Leave s) o p = (tt, tt)
  hoisted_placed ks (Loose s) o p = (tt, tt)
  hoisted_placed ks (Call to f args) o p = (tt, tt)
  hoisted_placed ks (Fail a) o p = (tt, tt)
  hoisted_placed ks (Then a b) o p = append_places (hoisted ks a o) (hoisted ks b (open_behind a o)) (hoisted_placed ks a o p.0) (hoisted_placed ks b (open_behind a o) p.1)
  hoisted_placed ks (Choose c a b) o p =
      ((inside_placed o a (hoisted ks a []) p.0 (hoisted_placed ks a [] p.0), inside_placed o b (hoisted ks b []) p.1 (hoisted_placed ks b [] p.1)), tt)
  hoisted_placed ks (Loop a c b) o p =
      loop_placed o ks a c b (Loop (inside o a (hoisted ks a [])) c (inside o b (hoisted ks b [])) ∷ []) p
      ((inside_placed o a (hoisted ks a []) p.0 (hoisted_placed ks a [] p.0), inside_placed o b (hoisted ks b []) p.1 (hoisted_placed ks b [] p.1)), tt)
  hoisted_placed ks (Block a) o p = (inside_placed o a (hoisted ks a []) p (hoisted_placed ks a [] p), tt)
  hoisted_placed ks (Exit k) o p = (tt, tt)

pub keeps_the_places : (B : ℕ → Option ℕ → ℕ → Bool) (ks : List Kind) (a : Code) → AllPlaces B a → AllPlaces B (in_order (hoisted ks a []))
keeps_the_places B ks a p = hoisted_placed B ks a [] p
