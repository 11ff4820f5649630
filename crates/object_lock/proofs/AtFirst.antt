-- A table whose seats have nothing in hand: every object is away, and every frame free.
use Rattle.std.proofs.Common.{◌≡◌, ◌⊎◌, inl, inr, ℕ, zero, suc, ◌<◌, ◌≤◌, ◌+◌, true, List, [], ◌∷◌, ◌++◌, length, get_or, Option, Some, None, sym, ap, ap₂, refl, ◌∙◌, subst, arith}
use Rattle.std.specs.Prelude.{map}
use Rattle.std.specs.List.{All}
use Rattle.std.proofs.lemmas.List.Elements.{All-head, All-tail, All-append, All-weaker}
use mathlib.Core.Option.{some, some-injective, some-ne-none}
use lib.ListN.{get_elem?}
use Rattle.atomic_table.specs.Table.{State}
use Rattle.pointer_word.specs.Words.{Place, Away, Coming, Here, Leaving, framed, pack}
use Rattle.pointer_word.specs.Hands.{Hand, Note, empty_handed}
use Rattle.pointer_word.specs.Machine.{State as Machine, Far, Never, content, Holder, Nobody, Object, Claimer, Freer}
use Rattle.pointer_word.specs.Sound.{PlaceOk, FrameOk, IsOutside}
use Rattle.object_lock.specs.Seats.{Sizes, View}
use Rattle.object_lock.specs.Rule.{Berthed, Stores, Rule}
use Rattle.object_lock.specs.SeatViews.{TableView, SeatView}
use Rattle.object_lock.specs.Fresh.{AreNumbered, EndWithLast, IsFreshOwner, IsFreshMover}
use Rattle.object_lock.specs.NewTable.{AreEmptyHanded, BeginsAway, NewTable}
use Rattle.object_lock.proofs.Blank.{blank_cells}

-- a place of the list is in it or behind it
seat_or : {A : Type 0} (l : List A) (j : ℕ) → ((a : A) × (get_elem? l j ≡ some a)) ⊎ (length l ≤ j)
seat_or [] j = inr (omega arith)
seat_or (a ∷ l) zero = inl (a, refl)
seat_or (a ∷ l) (suc j) = elim (seat_or l j) [ inl h ↦ inl h | inr h ↦ inr (omega arith) ]

-- what is so of the view of each seat is so of each view
seat_at : {W C : Type 0} (P : View → Type 0) (xs : List (SeatView W C)) (j : ℕ) (v : View) → All (λ (x : SeatView W C). P x.view) xs → get_elem? (map (λ (x : SeatView W C). x.view) xs) j ≡ some v → P v
seat_at P [] j v all e = absurd (some-ne-none v (sym e))
seat_at {W} {C} P (x ∷ xs) zero v all e = subst P (some-injective x.view v e) (All-head (λ (y : SeatView W C). P y.view) x xs all)
seat_at {W} {C} P (x ∷ xs) (suc j) v all e = seat_at P xs j v (All-tail (λ (y : SeatView W C). P y.view) x xs all) e

-- what is so of each is so of the one at this place
at_all : {A : Type 0} (P : A → Type 0) (xs : List A) (i : ℕ) (x : A) → All P xs → get_elem? xs i ≡ some x → P x
at_all P [] i x all e = absurd (some-ne-none x (sym e))
at_all P (y ∷ ys) zero x all e = subst P (some-injective y x e) (All-head P y ys all)
at_all P (y ∷ ys) (suc i) x all e = at_all P ys i x (All-tail P y ys all) e

abbrev behind_first : List ℕ → List ℕ
behind_first [] = []
behind_first (n ∷ ns) = ns

module _ {W C : Type 0} where
  -- numbers follow one another
  numbered_at : (first n : ℕ) (xs : List (SeatView W C)) → AreNumbered first n xs → (i : ℕ) (x : SeatView W C) → get_elem? xs i ≡ some x → x.view.number ≡ first + i
  numbered_at first n [] e i x at = absurd (some-ne-none x (sym at))
  numbered_at first zero (y ∷ ys) e i x at = absurd (let l = ap (λ (ns : List ℕ). length ns) e in omega arith)
  numbered_at first (suc n) (y ∷ ys) e zero x at = ap (λ (q : SeatView W C). q.view.number) (sym (some-injective y x at)) ∙ (ap (λ (ns : List ℕ). get_or ns 0 0) e ∙ (omega arith))
  numbered_at first (suc n) (y ∷ ys) e (suc i) x at = numbered_at (first + 1) n ys (ap behind_first e) i x at ∙ (omega arith)

  -- also over two lists
  both_numbered : (first n m : ℕ) (xs ys : List (SeatView W C)) → AreNumbered first n xs → AreNumbered (first + n) m ys → (i : ℕ) (x : SeatView W C) → get_elem? (xs ++ ys) i ≡ some x → x.view.number ≡ first + i
  both_numbered first zero m [] ys e d i x at = let same : first + 0 ≡ first = omega arith in numbered_at first m ys (subst (λ (q : ℕ). AreNumbered q m ys) same d) i x at
  both_numbered first (suc n) m [] ys e d i x at = absurd (let l = ap (λ (ns : List ℕ). length ns) e in omega arith)
  both_numbered first zero m (y ∷ xs) ys e d i x at = absurd (let l = ap (λ (ns : List ℕ). length ns) e in omega arith)
  both_numbered first (suc n) m (y ∷ xs) ys e d zero x at = ap (λ (q : SeatView W C). q.view.number) (sym (some-injective y x at)) ∙ (ap (λ (ns : List ℕ). get_or ns 0 0) e ∙ (omega arith))
  both_numbered first (suc n) m (y ∷ xs) ys e d (suc i) x at = let same : first + suc n ≡ first + 1 + n = omega arith in
      both_numbered (first + 1) n m xs ys (ap behind_first e) (subst (λ (q : ℕ). AreNumbered q m ys) same d) i x at ∙ (omega arith)

  -- the last of the seats, and its place
  last_of : (xs : List (SeatView W C)) → EndWithLast xs → (i : ℕ) × (x : SeatView W C) × (get_elem? xs i ≡ some x) × (x.view.last ≡ true) × (suc i ≡ length xs)
  last_of [] e = absurd e
  last_of (x ∷ []) e = (0, x, refl, e, refl)
  last_of (x ∷ y ∷ ys) e = let r = last_of (y ∷ ys) e in (suc r.0, r.1, r.2, r.3, ap suc r.4)

  -- as many views, each of which is that of a seat
  same_views : (vs : List View) (xs : List (SeatView W C)) → length vs ≡ length xs → ((i : ℕ) (x : SeatView W C) → get_elem? xs i ≡ some x → get_elem? vs i ≡ some x.view) → vs ≡ map (λ (x : SeatView W C). x.view) xs
  same_views [] [] l f = refl
  same_views [] (x ∷ xs) l f = absurd (omega arith)
  same_views (v ∷ vs) [] l f = absurd (omega arith)
  same_views (v ∷ vs) (x ∷ xs) l f = ap₂ (λ (a : View) (rest : List View). a ∷ rest) (some-injective v x.view (f 0 x refl)) (same_views vs xs (omega arith) (λ i y e. f (suc i) y e))

nothing_in : (x y : Option ℕ) (o : ℕ) → x ≡ y → y ≡ None → x ≡ Some o → ⊥
nothing_in x y o e n s = let z : None ≡ Some o = sym n ∙ sym e ∙ s in cc

-- where no mover has anything in hand, a place in no frame is that of an object that is away
away_at : (h : Type 0) (n : ℕ) (m : Machine) (o : ℕ) (p : Place) → ((k : ℕ) → m.hand k ≡ empty_handed) → IsOutside p → PlaceOk h n m o p → p ≡ Away
away_at h n m o Away idle out ok = refl
away_at h n m o (Coming k) idle out ok = absurd (nothing_in (m.hand k).bringing empty_handed.bringing o (ap (λ (x : Hand). x.bringing) (idle k)) refl ok.1)
away_at h n m o (Here f k) idle out ok = absurd out
away_at h n m o (Leaving f k b) idle out ok = absurd out

-- and a frame is nobody's
free_at : (m : Machine) (f : ℕ) (x : Holder) → ((k : ℕ) → m.hand k ≡ empty_handed) → ((o : ℕ) → (m.word o).place ≡ Away) → FrameOk m f x → m.frame f ≡ 0
free_at m f Nobody idle away ok = ok
free_at m f (Object o) idle away ok = absurd (nothing_in (framed (m.word o).place) (framed Away) f (ap framed (away o)) refl ok.1)
free_at m f (Claimer k) idle away ok = absurd (nothing_in (m.hand k).claimed empty_handed.claimed f (ap (λ (x : Hand). x.claimed) (idle k)) refl ok.1)
free_at m f (Freer k) idle away ok = absurd (nothing_in (m.hand k).freed empty_handed.freed f (ap (λ (x : Hand). x.freed) (idle k)) refl ok.1)

module _ {S : Type 0} (kept : S → ℕ → List ℕ → Type 0) (there : S → Type 0) (honest : Type 0) where
  idle_all : (z : Sizes) (s : State S View) (r : Rule kept there honest z s) → AreEmptyHanded s → (k : ℕ) → r.machine.hand k ≡ empty_handed
  idle_all z s r empty zero = r.unnumbered
  idle_all z s r empty (suc j) = elim (seat_or s.views j) [
    | inl h ↦ let seat = r.seats j h.0 h.1 in ap r.machine.hand (sym seat.numbered) ∙ (sym seat.shows.0 ∙ empty j h.0 h.1)
    | inr h ↦ r.unseated j h
  ]

  never_kept : (o : ℕ) (b : S) (x : Far) → x ≡ Never → Stores kept there b o x → kept b o []
  never_kept o b x e is = let same : Some [] ≡ Some is.0 = ap content (sym e) ∙ is.1 in subst (kept b o) (cc) is.2

  pub new_table : NewTable kept there honest
  new_table z s r empty =
      let idle = idle_all z s r empty in
      let none : (k : ℕ) → (r.machine.hand k).arrivals ≡ 0 = λ k. ap (λ (x : Hand). x.arrivals) (idle k) in
      let away : (o : ℕ) → (r.machine.word o).place ≡ Away = λ o. away_at honest z.cells r.machine o (r.machine.word o).place idle (r.inv.untouched none o).0 (r.inv.object o) in
      let bits : (o : ℕ) → pack (r.machine.word o) ≡ (r.machine.word o).count = λ o. ap (λ (p : Place). pack (record { count = (r.machine.word o).count; place = p })) (away o) ∙ omega arith in
      record {
        few = λ o l. let x = r.objects o l in subst (λ (n : ℕ). n ≤ 4) (sym (x.word ∙ bits o)) x.few;
        holds = λ j v o at own. let seat = r.seats j v at in
            let l : o < z.objects = (let a = own.1 in let b = seat.within in omega arith) in
            (r.objects o l).word ∙ (bits o ∙ ((r.inv.owner o).counts ∙ ap (λ (y : Note). y.count) (sym (seat.shows.1 o own))));
        left = λ j v o at end behind near. (r.objects o near).word ∙ (bits o ∙ ((r.inv.owner o).counts ∙ ap (λ (y : Note). y.count) (r.left j v at end o behind).1));
        berths = λ o l. let x = subst (λ (p : Place). Berthed kept there o (r.machine.far o) (get_elem? s.homes o) p) (away o) (r.objects o l).berthed in
            (x.0, x.1, never_kept o x.0 (r.machine.far o) (r.inv.untouched none o).1 x.2);
        frames = λ f l. (r.frames f l).word ∙ free_at r.machine f (r.machine.who f) idle away (r.inv.frame f);
        cells = λ f i l m. (r.frames f l).cells i m ∙ blank_cells honest z.cells r.led.0 r.machine r.led.1 (λ k. ap (λ (x : Hand). x.claims) (idle k)) f i;
      }

  -- so it is of a table that was just made
  pub begins_away : {W C : Type 0} (z : Sizes) (t : TableView) (share programs count : ℕ) (owners movers : List (SeatView W C)) → All (IsFreshOwner t share) owners → All (IsFreshMover t) movers
      → AreNumbered 1 programs owners → AreNumbered (suc programs) count movers → EndWithLast (owners ++ movers) → BeginsAway kept there honest z (owners ++ movers)
  begins_away {W} {C} z t share programs count owners movers o m first then end s r at =
      let next : suc programs ≡ 1 + programs = omega arith in
      let behind : AreNumbered (1 + programs) count movers = subst (λ (q : ℕ). AreNumbered q count movers) next then in
      let seated : (i : ℕ) (x : SeatView W C) → get_elem? (owners ++ movers) i ≡ some x → get_elem? s.views i ≡ some x.view = λ i x e.
      let here : get_elem? s.views x.id ≡ some x.view = at_all (λ (y : SeatView W C). get_elem? s.views y.id ≡ some y.view) (owners ++ movers) i x at e in
      let shown = (r.seats x.id x.view here).numbered in let number = both_numbered 1 programs count owners movers first behind i x e in
      subst (λ (k : ℕ). get_elem? s.views k ≡ some x.view) (omega arith) here in
      let final = last_of (owners ++ movers) end in
      let long : length s.views ≡ length (owners ++ movers) = sym (r.newest final.0 final.1.view (seated final.0 final.1 final.2) final.3) ∙ final.4 in
      let is : s.views ≡ map (λ (x : SeatView W C). x.view) (owners ++ movers) = same_views s.views (owners ++ movers) long seated in
      let idle : SeatView W C → Type 0 = λ x. x.view.hand ≡ empty_handed in
      let all : All idle (owners ++ movers) = All-append idle owners movers (All-weaker (IsFreshOwner t share) idle (λ x f. f.0.1) owners o) (All-weaker (IsFreshMover t) idle (λ x f. f.0.1) movers m) in
      (is, new_table z s r (λ j v at. seat_at (λ (x : View). x.hand ≡ empty_handed) (owners ++ movers) j v all (subst (λ (vs : List View). get_elem? vs j ≡ some v) is at)))
