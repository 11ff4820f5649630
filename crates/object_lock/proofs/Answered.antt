-- What a begin tells, and what a seat has in its hands when it gives a berth back.
use Rattle.std.proofs.Common.{◌<◌, ◌+◌, ◌≡◌, ℕ, true, false, List, ◌∷◌, length, sym, refl, ap, ◌∙◌, subst, ap₂, Bool, cond, eq-eqb, ne_eqb}
use Rattle.std.specs.Prelude.{◌==◌, Option, Some, None, Result, Ok, Err, IfOk}
use mathlib.Core.Path.{Path}
use Rattle.atomic_table.specs.Table.{Me}
use Rattle.pointer_word.specs.Words.{Place, PlaceFits, Away, Coming, Here, Leaving, Word, face, framed, place_bits}
use Rattle.pointer_word.proofs.Fields.{state_bits, told as fields_told}
use Rattle.pointer_word.specs.Hands.{Hand, told, listed, seen}
use Rattle.pointer_word.specs.Calls.{Filled}
use Rattle.remote_store.specs.declared.berth.Berth.{Berth}
use Rattle.remote_store.specs.Kept.{Keeps}
use Rattle.object_lock.specs.declared.answers.Begin.{Begin}
use Rattle.object_lock.specs.declared.answers.Begin.TheVariants as B
use Rattle.object_lock.specs.Seats.{Sizes, View, note, with_note}
use Rattle.object_lock.specs.Logs.{Deed, tells_frame}
use Rattle.object_lock.specs.Rule.{PlaceIn}
use Rattle.object_lock.specs.Kept.{slot_keeps, slot_has, berth_fits, berth_keeps}
use Rattle.object_lock.specs.Plays.{Found, Confirms}
use Rattle.object_lock.specs.SeatViews.{SeatView, InHand, Matches, Promises}
use Rattle.object_lock.specs.Seating.{Brought, Copied}
use Rattle.object_lock.specs.Telling.{begun, tried_at, tried, Begun, Fetched, HasPut}
use Rattle.pointer_word.proofs.Bits.{is_away}
use Rattle.object_lock.proofs.Mover.{plain}
use Rattle.object_lock.proofs.Exact.{same_note}

-- an object that was not begun is not answered to be taken
pub never_taken : (p : Place) → begun p ≡ B.Taken → ⊥
never_taken Away e = cc
never_taken (Coming m) e = cc
never_taken (Here f k) e = cc
never_taken (Leaving f m k) e = cc

-- what the number of a word tells of a frame
pub no_frame : (p : Place) (c n : ℕ) → c < 65536 → PlaceFits p → n ≡ c + place_bits p → framed p ≡ None → tells_frame n ≡ false
no_frame p c n l k e none = ap (λ (b : ℕ). b == 2) (fields_told p c n l k e).3 ∙ by_place p none
  where
    by_place : (q : Place) → framed q ≡ None → (state_bits q == 2) ≡ false
    by_place Away d = refl
    by_place (Coming m) d = refl
    by_place (Here f b) d = cc
    by_place (Leaving f m b) d = cc

pub some_frame : (p : Place) (c n f : ℕ) → c < 65536 → PlaceFits p → n ≡ c + place_bits p → framed p ≡ Some f → tells_frame n ≡ true
some_frame p c n f l k e some = ap (λ (b : ℕ). b == 2) (fields_told p c n l k e).3 ∙ by_place p some
  where
    by_place : (q : Place) → framed q ≡ Some f → (state_bits q == 2) ≡ true
    by_place Away d = cc
    by_place (Coming m) d = cc
    by_place (Here g b) d = refl
    by_place (Leaving g m b) d = refl

-- an object that is told in a frame is there
pub told_frame : (p : Place) (f : ℕ) → begun p ≡ B.Here f → framed p ≡ Some f
told_frame Away f e = cc
told_frame (Coming m) f e = cc
told_frame (Here g k) f e = let h : g ≡ f = cc in ap Some h
told_frame (Leaving g m k) f e = let h : g ≡ f = cc in ap Some h

-- a note in which no frame is known stays when none is told
unknown : (v : View) (o : ℕ) → ((f : ℕ) → (note v o).frame ≡ Some f → None ≡ Some f) → with_note v o (told (note v o) None) ≡ v
unknown v o none = go (note v o).frame refl
  where
    go : (q : Option ℕ) → (note v o).frame ≡ q → with_note v o (told (note v o) None) ≡ v
    go None e = ap (λ (q : Option ℕ). with_note v o (told (note v o) q)) (sym e) ∙ same_note v o
    go (Some f) e = absurd (let h = none f e in cc)

module _ {W C : Type 0} (fits : C → ℕ → Type 0) (content : C → Option (List ℕ)) (o : ℕ) (old new : SeatView W C) where
  abbrev Left : Place → Type 0
  Left p = Path (SeatView W C) new (record old { view = with_note old.view o (told (note old.view o) (framed p)); log = new.log })

  answered : (p : Place) → PlaceIn old.view.sizes p → Confirms old.view o p → Left p → (framed p ≡ None → new.log ≡ old.log) → Begun fits content o old new (begun p)
  answered Away k c e quiet = e ∙ ap₂ (λ (v : View) (l : List Deed). record old { view = v; log = l }) (unknown old.view o c) (quiet refl)
  answered (Coming m) k c e quiet = e ∙ ap₂ (λ (v : View) (l : List Deed). record old { view = v; log = l }) (unknown old.view o c) (quiet refl)
  answered (Here f b) k c e quiet = (k, (λ g h. let q = c g h in let r : f ≡ g = cc in sym r), e)
  answered (Leaving f m b) k c e quiet = (k.0, (λ g h. let q = c g h in let r : f ≡ g = cc in sym r), e)

  -- what is answered of an object that was not begun
  pub not_begun : (p : Place) (r : Begin) → r ≡ begun p → PlaceIn old.view.sizes p → Confirms old.view o p → Left p → (framed p ≡ None → new.log ≡ old.log) → Begun fits content o old new r
  not_begun p r is k c e quiet = subst (Begun fits content o old new) (sym is) (answered p k c e quiet)

module _ {W C : Type 0} (fits : C → ℕ → Type 0) (content : C → Option (List ℕ)) (o : ℕ) (old new : SeatView W C) where
  unfetched : (p : Place) → PlaceIn old.view.sizes p → Path (SeatView W C) new old → Fetched fits content o old new (begun p)
  unfetched Away k e = e
  unfetched (Coming m) k e = e
  unfetched (Here f b) k e = (k, e)
  unfetched (Leaving f m b) k e = (k.0, e)

  -- what a fetcher is answered of an object that was not begun
  pub not_fetched : (p : Place) (r : Begin) → r ≡ begun p → PlaceIn old.view.sizes p → Path (SeatView W C) new old → Fetched fits content o old new r
  not_fetched p r is k e = subst (Fetched fits content o old new) (sym is) (unfetched p k e)

-- the berth that a put left keeps what was put
pub put_in : {C A E : Type 0} (fits : C → ℕ → Type 0) (content : C → Option (List ℕ)) (n : ℕ) (b : Berth C) (o : ℕ) (ws : List ℕ) (r : Result A E) → length ws ≡ n → berth_fits fits n b → IfOk r (λ _. Keeps (length ws) b.version (content b.cell) o ws)
    → IfOk r (λ _. (x : Berth C) × Path (Option (Berth C)) (Some b) (Some x) × berth_keeps fits content n x o ws)
put_in fits content n b o ws (Ok u) e f k = (b, refl, (f, subst (λ (m : ℕ). Keeps m b.version (content b.cell) o ws) e k))
put_in fits content n b o ws (Err x) e f k = tt

-- the berth of the object that is moved out fits its piece
pub matched : {C : Type 0} (fits : C → ℕ → Type 0) (n o : ℕ) (q : Option ℕ) (b : Option (Berth C)) (x : Berth C) → q ≡ Some o → Path (Option (Berth C)) b (Some x) → Matches fits n q b → berth_fits fits n x
matched fits n o None b x e is k = absurd (cc)
matched fits n o (Some p) None x e is k = absurd (cc)
matched {C} fits n o (Some p) (Some y) x e is k = let same : Path (Berth C) y x = (cc) in subst (berth_fits fits n) same k

-- a slot that has a berth
pub berth_there : {C : Type 0} (fits : C → ℕ → Type 0) (n : ℕ) (b r : Option (Berth C)) → slot_has fits n b → Path (Option (Berth C)) r b → (x : Berth C) × Path (Option (Berth C)) r (Some x)
berth_there fits n None r k e = absurd k
berth_there fits n (Some x) r k e = (x, e)

module _ {C : Type 0} (fits : C → ℕ → Type 0) (content : C → Option (List ℕ)) (n o : ℕ) (ws : List ℕ) where
  -- a slot that keeps something has a berth
  pub berth_in : (b r : Option (Berth C)) → slot_keeps fits content n b o ws → Path (Option (Berth C)) r b → (x : Berth C) × berth_keeps fits content n x o ws × Path (Option (Berth C)) r (Some x)
  berth_in None r k e = absurd k
  berth_in (Some x) r k e = (x, k, e)

pub first_slot : {A : Type 0} (p q : ℕ × A) (xs ys : List (ℕ × A)) → (p ∷ xs) ≡ (q ∷ ys) → Path A p.1 q.1
first_slot {A} p q xs ys e = let same : Path (ℕ × A) p q = (cc) in ap (λ (r : ℕ × A). r.1) same

module _ {C : Type 0} (fits : C → ℕ → Type 0) (content : C → Option (List ℕ)) (o : ℕ) where
  promises : (n : ℕ) (q : Option ℕ) (ws : List ℕ) (b : Option (Berth C)) → q ≡ Some o → Promises fits content n q ws b → slot_keeps fits content n b o ws
  promises n None ws b e k = cc
  promises n (Some p) ws None e k = k
  promises n (Some p) ws (Some b) e k = let h : p ≡ o = cc in subst (λ (i : ℕ). berth_keeps fits content n b i ws) h k

  -- the berth that was brought in keeps what was promised
  pub keeps_promised : (number low high source : ℕ) (v : View) (slots : List (ℕ × Option (Berth C))) (brought taken : Option (Berth C)) → v.hand.bringing ≡ Some o → InHand fits content number low high source v slots brought taken → slot_keeps fits content v.sizes.cells brought o v.hand.promised
  keeps_promised number low high source v slots brought taken e k = promises v.sizes.cells v.hand.bringing v.hand.promised brought e k.5

  -- the berth that was put was put back into the slot that is out
  pub put_copied : {W : Type 0} (m : Me (Option (Berth C)) View) (v : View) (slots : List (ℕ × Option (Berth C))) (b : Option (Berth C)) (s : SeatView W C) (n k : ℕ) → m ≡ (v, (o, b) ∷ slots) → v ≡ s.view → Path (Option (Berth C)) b s.taken → v.sizes.cells ≡ n → k ≡ n
      → HasPut fits content n o s → Copied (slot_keeps fits content m.0.sizes.cells) k o m
  put_copied m v slots b s n k e same taken is has put =
      let kept = subst (λ (r : Option (Berth C)). slot_keeps fits content n r o put.1) (sym (taken ∙ put.2)) put.3 in
      let copied : (i : ℕ) → i < k → seen v.hand.copied i ≡ Some (listed put.1 i) = λ i l. ap (λ (x : View). seen x.hand.copied i) same ∙ put.4 i (subst (λ (j : ℕ). i < j) has l) in
      subst (λ (q : Me (Option (Berth C)) View). Copied (slot_keeps fits content q.0.sizes.cells) k o q) (sym e)
      (b, put.1, refl, subst (λ (j : ℕ). slot_keeps fits content j b o put.1) (sym is) kept, copied)

  -- the berth was put back into the slot that is out
  pub put_back : (m : Me (Option (Berth C)) View) (v : View) (slots : List (ℕ × Option (Berth C))) (b : Option (Berth C)) → m ≡ (v, (o, b) ∷ slots) → slot_keeps fits content v.sizes.cells b o v.hand.promised → Brought (slot_keeps fits content m.0.sizes.cells) o m
  put_back m v slots b e k = subst (λ (q : Me (Option (Berth C)) View). Brought (slot_keeps fits content q.0.sizes.cells) o q) (sym e) (b, refl, k)

pub filled_at : (h : Type 0) (n k : ℕ) (x y : Hand) → n ≡ k → x ≡ y → Filled h k y → Filled h n x
filled_at h n k x y e d f = subst (λ (q : ℕ). Filled h q x) (sym e) (subst (Filled h k) (sym d) f)

-- what a try to begin answers, by the word that it found
pub tried_hit : (z : Sizes) (w : Word) (r c : ℕ) → c < 65536 → Found z w r → r ≡ c → B.Taken ≡ tried c w
tried_hit z w r c low found hit = let q = is_away w.place w.count c found.1.0.1 found.1.0.0 low (sym found.0 ∙ (hit ∙ plain c)) in
    sym (ap (tried_at c w.count) q.0 ∙ ap (λ (b : Bool). cond b B.Taken B.Busy) (eq-eqb w.count c q.1))

missed_at : (n c : ℕ) (p : Place) → (p ≡ Away → n ≡ c → ⊥) → begun p ≡ tried_at c n p
missed_at n c Away d = sym (ap (λ (b : Bool). cond b B.Taken B.Busy) (ne_eqb n c (d refl)))
missed_at n c (Coming m) d = refl
missed_at n c (Here f k) d = refl
missed_at n c (Leaving f m k) d = refl

pub tried_miss : (z : Sizes) (w : Word) (r c : ℕ) (b : Begin) → Found z w r → (r ≡ c → ⊥) → b ≡ begun w.place → b ≡ tried c w
tried_miss z w r c b found miss is = is ∙ missed_at w.count c w.place (λ e d. miss (found.0 ∙ (ap₂ (λ (p : Place) (n : ℕ). face p n) e d ∙ sym (plain c))))
