-- The displacements of the places of an image's code are of 32 bits, where no layout has 2^32 cells.
use Rattle.std.proofs.Common.{◌≡◌, ℕ, zero, suc, ◌<◌, Bool, true, false, cond, Option, Some, None, List, [], ◌∷◌, ◌++◌, length, arith}
use Rattle.std.specs.Prelude.{◌&&◌, nat_lt, slice_get}
use Rattle.std.specs.List.{list_all}
use Rattle.std.proofs.lemmas.Bool.{lt-ltb, ltb-true}
use Rattle.code_form.specs.declared.form.Kind.{Kind}
use Rattle.code_form.specs.declared.form.Kind.TheVariants as kind
use Rattle.code_form.specs.Form.{Head, Simple}
use Rattle.code_form.specs.Code.{and_then, cell_kind, has, layout_of, needs_shut, on_kind, place_fits}
use Rattle.code_form.specs.Counts.{is_few}
use Rattle.middle_form.specs.Form as f
use Rattle.middle_form.specs.Scoped as s
use Rattle.middle_form.specs.WellFormed.{access_fits, code_fits}
use Rattle.scoped_building.specs.Building.{in_order}
use Rattle.scoped_building.specs.Places.{AllPlaces}
use Rattle.scope_placement.specs.Placed.{Open, leaves, leaves_from, open_behind, placed, whole}
use Rattle.scope_verifier_laws.proofs.Ranges.{on_there}
use Rattle.c0_well_formed.proofs.CellKinds.{Each, each_append}
use Rattle.c0_well_formed.proofs.Tests.{both_true}

-- the displacement of each place of the code is of 32 bits
abbrev pub Near : s.Code → Type 0
Near a = AllPlaces (λ r off disp. nat_lt disp 4294967296) a

-- ---- cells that are there

-- a cell of one of these layouts
cell_near : (ls : List (List Kind)) (test : Kind → Bool) (l disp : ℕ) → list_all is_few ls ≡ true → on_kind test (and_then (slice_get ls l) (λ cs. slice_get cs disp)) ≡ true → nat_lt disp 4294967296 ≡ true
cell_near [] test l disp few h = absurd (cc h)
cell_near (cs ∷ ls) test zero disp few h =
    let n : length cs < 4294967296 = ltb-true (length cs) 4294967296 (both_true (is_few cs) (list_all is_few ls) few).0 in
    let l : disp < length cs = ltb-true disp (length cs) (on_there cs test disp h) in
    lt-ltb disp 4294967296 (omega (arith, n, l))
cell_near (cs ∷ ls) test (suc l) disp few h = cell_near ls test l disp (both_true (is_few cs) (list_all is_few ls) few).1 h

module _ (H : Head) (few : list_all is_few H.layouts ≡ true) where
  -- a cell of what a register refers to
  displacement_near : (ks : List Kind) (test : Kind → Bool) (r disp : ℕ) → on_kind test (cell_kind H ks r disp) ≡ true → nat_lt disp 4294967296 ≡ true
  displacement_near ks test r disp h = of_kind (slice_get ks r) h
    where
      of_layout : (o : Option ℕ) → on_kind test (and_then o (λ l. and_then (slice_get H.layouts l) (λ cs. slice_get cs disp))) ≡ true → nat_lt disp 4294967296 ≡ true
      of_layout None e = absurd (cc e)
      of_layout (Some l) e = cell_near H.layouts test l disp few e

      of_kind : (o : Option Kind) → on_kind test (and_then o (λ k. and_then (layout_of k) (λ l. and_then (slice_get H.layouts l) (λ cs. slice_get cs disp)))) ≡ true → nat_lt disp 4294967296 ≡ true
      of_kind None e = absurd (cc e)
      of_kind (Some k) e = of_layout (layout_of k) e

-- ---- code with scopes placed

ordered_near : (cs : List s.Code) → Each Near cs → Near (in_order cs)
ordered_near [] h = tt
ordered_near (x ∷ rest) h = (h.0, ordered_near rest h.1)

leaves_near : (z : ℕ) (rs : Open) → Each Near (leaves_from z rs)
leaves_near z [] = tt
leaves_near z (r ∷ rs) = (tt, leaves_near (suc z) rs)

-- some leaves in front
left_near : (rs : Open) (x : s.Code) → Near x → Each Near (leaves rs ++ x ∷ [])
left_near rs x h = each_append Near (leaves rs) (x ∷ []) (leaves_near 0 rs) (h, tt)

left_where_asked : (b : Bool) (rs : Open) (x : s.Code) → Near x → Each Near (cond b (leaves rs) [] ++ x ∷ [])
left_where_asked true rs x h = left_near rs x h
left_where_asked false rs x h = (h, tt)

closed_near : (a : f.Code) → Each Near (placed a []) → Near (whole a)
closed_near a h = ordered_near _ (each_append Near (placed a []) (leaves (open_behind a [])) h (leaves_near 0 (open_behind a [])))

module _ (P : f.Program) (few : list_all is_few P.head.layouts ≡ true) (ks : List Kind) where
  access_near : (a r : ℕ) (off : Option ℕ) (disp : ℕ) → access_fits P ks a r off disp ≡ true → nat_lt disp 4294967296 ≡ true
  access_near a r off disp h =
      displacement_near P.head few ks (λ k. has ks a k) r disp (both_true (place_fits ks r off) (on_kind (λ k. has ks a k) (cell_kind P.head ks r disp)) h).1

  placed_near : (around : ℕ) (a : f.Code) (rs : Open) → code_fits P ks around a ≡ true → Each Near (placed a rs)
  placed_near around f.Nothing rs h = tt
  placed_near around (f.Do x) rs h = left_where_asked (needs_shut (Simple x)) rs (s.Do x) tt
  placed_near around (f.Load to r off disp) rs h = (access_near to r off disp h, tt)
  placed_near around (f.Store r off disp from) rs h = (access_near from r off disp h, tt)
  placed_near around (f.Call to i args) rs h = left_near rs (s.Call to i args) tt
  placed_near around (f.Fail a) rs h = (tt, tt)
  placed_near around (f.Then a b) rs h =
      let q = both_true (code_fits P ks around a) (code_fits P ks around b) h in
      each_append Near (placed a rs) (placed b (open_behind a rs)) (placed_near around a rs q.0) (placed_near around b (open_behind a rs) q.1)
  placed_near around (f.Choose r a b) rs h =
      let q = both_true (has ks r kind.Bool) (code_fits P ks around a && code_fits P ks around b) h in
      let w = both_true (code_fits P ks around a) (code_fits P ks around b) q.1 in
      left_near rs (s.Choose r (whole a) (whole b)) (closed_near a (placed_near around a [] w.0), closed_near b (placed_near around b [] w.1))
  placed_near around (f.Loop test r body) rs h =
      let q = both_true (has ks r kind.Bool) (code_fits P ks (suc around) test && code_fits P ks (suc around) body) h in
      let w = both_true (code_fits P ks (suc around) test) (code_fits P ks (suc around) body) q.1 in
      left_near rs (s.Loop (whole test) r (whole body)) (closed_near test (placed_near (suc around) test [] w.0), closed_near body (placed_near (suc around) body [] w.1))
  placed_near around (f.Block a) rs h = left_near rs (s.Block (whole a)) (closed_near a (placed_near (suc around) a [] h))
  placed_near around (f.Exit i) rs h = left_near rs (s.Exit i) tt

  pub whole_near : (a : f.Code) → code_fits P ks 0 a ≡ true → Near (whole a)
  whole_near a h = closed_near a (placed_near 0 a [] h)
