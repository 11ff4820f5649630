-- Opening a hold of an object and bringing the object in.
use Rattle.std.proofs.Common.{◌≡◌, ℕ, ◌+◌, ◌<◌, List, [], ◌∷◌, ◌++◌, length, sym, ap, ap₂, ◌∙◌, subst}
use Rattle.std.specs.Prelude.{Option, Some, None, slice_set}
use Rattle.std.proofs.lemmas.List.{get_or-set_same, set-set}
use Rattle.pointer_word.specs.Hands.{Hand, Note, arriving, blank, closed, listed, opened, told}
use Rattle.pointer_word.specs.Calls.{Filled}
use Rattle.object_lock.specs.Seats.{View, note, with_hand, with_note}
use Rattle.object_lock.specs.Plays.{Holds, IsUnheld}
use Rattle.object_lock.specs.SeatViews.{SeatView}
use Rattle.object_moves.specs.Moving.{Arrived, hand_arrived}
use Rattle.object_moves.specs.Taken.{Brings, ClosesAgain, FetchesOr, FilledBelow, FillsOnly, GivesUp, Refused, Takes, TakesOr, seat_of}
use Rattle.object_moves.proofs.Filling.{filled_next}

pub filled_from : (honest : Type 0) (promised : List ℕ) (w : Hand) (ws : List ℕ) (n : ℕ) → w.promised ≡ promised → FilledBelow w.filled ws n
    → (honest → (i : ℕ) → i < n → listed ws i ≡ listed promised i) → Filled honest n w
filled_from honest promised w ws n same h got i l = (listed ws i, h i l, λ t. got t i l ∙ ap (λ (ps : List ℕ). listed ps i) (sym same))

taken : (o : ℕ) (v u w : View) (f : ℕ) → (note v o).frame ≡ None → u ≡ with_note v o (opened (note v o) None) → o < length v.notes → Brings o u w f → Takes o v w f
taken o v u w f away e wide b =
    let n : Note = opened (note v o) None in
    let here : note (with_note v o n) o ≡ n = get_or-set_same v.notes o n blank wide in
    let at : note u o ≡ n = ap (λ (x : View). note x o) e ∙ here in
    record {
      room = subst (λ (x : View). f < x.sizes.frames) e b.room;
      same = λ g h. absurd (cc);
      notes = b.notes ∙ (ap (λ (x : Note). slice_set u.notes o (told x (Some f))) at ∙ (ap (λ (x : View). slice_set x.notes o (told n (Some f))) e ∙ set-set v.notes o n (told n (Some f))));
      low = b.low ∙ ap (λ (x : View). x.low) e;
      high = b.high ∙ ap (λ (x : View). x.high) e;
      seat = b.seat ∙ ap seat_of e;
      sizes = b.sizes ∙ ap (λ (x : View). x.sizes) e;
      quiet = b.quiet;
    }

pub fill_keeps : {W C : Type 0} (s t u : SeatView W C) (i n : ℕ) → FillsOnly s t
    → u ≡ record t { view = with_hand t.view (record t.view.hand { filled = t.view.hand.filled ++ (i, n) ∷ [] }); log = u.log } → FillsOnly s u
fill_keeps {W} {C} s t u i n e d =
    let a : u.view.hand.filled ≡ t.view.hand.filled ++ (i, n) ∷ [] = ap (λ (x : SeatView W C). x.view.hand.filled) d in
    let put : SeatView W C → List (ℕ × ℕ) → SeatView W C = λ x ps. record x { view = with_hand x.view (record x.view.hand { filled = ps }); log = u.log } in
    d ∙ ap (put t) (sym a) ∙ ap (λ (x : SeatView W C). put x u.view.hand.filled) e

same_view : {W C : Type 0} (s t : SeatView W C) → s ≡ t → s.view ≡ t.view
same_view {W} {C} s t e = ap (λ (x : SeatView W C). x.view) e

pub fill_more : {W C : Type 0} (s t u : SeatView W C) (ws : List ℕ) (i : ℕ) → FillsOnly s t → FilledBelow t.view.hand.filled ws i
    → u ≡ record t { view = with_hand t.view (record t.view.hand { filled = t.view.hand.filled ++ (i, listed ws i) ∷ [] }); log = u.log }
    → FillsOnly s u × FilledBelow u.view.hand.filled ws (i + 1)
fill_more {W} {C} s t u ws i same below e =
    (fill_keeps s t u i (listed ws i) same e, filled_next t.view.hand.filled u.view.hand.filled ws i below (ap (λ (x : SeatView W C). x.view.hand.filled) e))

pub filled_hand : {W C : Type 0} (honest : Type 0) (t u w : SeatView W C) (cells : ℕ) (ws : List ℕ)
    → u ≡ record t { store = u.store; refusals = u.refusals } → FillsOnly u w
    → FilledBelow w.view.hand.filled ws cells → (honest → (i : ℕ) → i < cells → listed ws i ≡ listed t.view.hand.promised i) → Filled honest cells w.view.hand
filled_hand {W} {C} honest t u w cells ws read fills below got =
    let promised : SeatView W C → List ℕ = λ x. x.view.hand.promised in
    let same : w.view.hand.promised ≡ t.view.hand.promised = ap promised fills ∙ ap promised read in
    filled_from honest t.view.hand.promised w.view.hand ws cells same below got

-- a hold that was opened is closed again
given_up : (o : ℕ) (v u w : View) → (note v o).frame ≡ None → u ≡ with_note v o (opened (note v o) None) → o < length v.notes → ClosesAgain o u w → GivesUp o v w
given_up o v u w away e wide b =
    let n : Note = opened (note v o) None in
    let here : note (with_note v o n) o ≡ n = get_or-set_same v.notes o n blank wide in
    let at : note u o ≡ n = ap (λ (x : View). note x o) e ∙ here in
    record {
      unknown = away;
      notes = b.notes ∙ (ap (λ (x : Note). slice_set u.notes o (closed x)) at ∙ (ap (λ (x : View). slice_set x.notes o (closed n)) e ∙ set-set v.notes o n (closed n)));
      low = b.low ∙ ap (λ (x : View). x.low) e;
      high = b.high ∙ ap (λ (x : View). x.high) e;
      seat = b.seat ∙ ap seat_of e;
      sizes = b.sizes ∙ ap (λ (x : View). x.sizes) e;
      quiet = b.quiet;
    }

-- the object was fetched after a hold was opened, or the hold is closed again
pub taken_or : {W C : Type 0} (reliable : Type 0) (o : ℕ) (s t u : SeatView W C) (r : Option ℕ) → (note s.view o).frame ≡ None → t ≡ record s { view = with_note s.view o (opened (note s.view o) None); log = t.log } → o < length s.view.notes
    → FetchesOr reliable o t u r → TakesOr reliable o s u r
taken_or {W} {C} reliable o s t u (Some f) away e wide k = (taken o s.view t.view u.view f away (same_view t _ e) wide k.0, k.1 ∙ ap (λ (x : SeatView W C). x.refusals) e)
taken_or {W} {C} reliable o s t u None away e wide k = (given_up o s.view t.view u.view away (same_view t _ e) wide k.0, subst (λ n. Refused reliable n u.refusals) (ap (λ (x : SeatView W C). x.refusals) e) k.1)

-- what is read and filled before an object arrives changes the cells that were filled alone
pub arrived_by : {W C : Type 0} (o f : ℕ) (s r w t : SeatView W C) → r ≡ record s { store = r.store; refusals = r.refusals } → FillsOnly r w
    → (Holds w.view o → t ≡ record w { view = with_note (with_hand w.view (arriving w.view.hand)) o (told (note w.view o) (Some f)); brought = None; log = t.log })
    → (IsUnheld w.view o → t ≡ record w { view = with_hand w.view (arriving w.view.hand); brought = None; log = t.log }) → Arrived o f s t
arrived_by {W} {C} o f s r w t read filled held unheld = (
  (λ h.
      let there : Holds w.view o = subst (λ (x : SeatView W C). Holds x.view o) (sym filled) (subst (λ (x : SeatView W C). Holds x.view o) (sym read) h) in
      let e = held there ∙ ap arrive filled ∙ ap (λ (x : SeatView W C). arrive (put x)) read in
      e ∙ ap₂ (λ (ps : List (ℕ × ℕ)) (x : SeatView W C). record s { view = with_note (with_hand s.view (hand_arrived s.view.hand ps)) o (told (note s.view o) (Some f)); brought = None; store = x.store; refusals = x.refusals; log = t.log })
      (sym (ap (λ (x : SeatView W C). x.view.hand.filled) (held there))) (sym e)),
  (λ h.
      let there : IsUnheld w.view o = subst (λ (x : SeatView W C). IsUnheld x.view o) (sym filled) (subst (λ (x : SeatView W C). IsUnheld x.view o) (sym read) h) in
      let e = unheld there ∙ ap give filled ∙ ap (λ (x : SeatView W C). give (put x)) read in
      e ∙ ap₂ (λ (ps : List (ℕ × ℕ)) (x : SeatView W C). record s { view = with_hand s.view (hand_arrived s.view.hand ps); brought = None; store = x.store; refusals = x.refusals; log = t.log })
      (sym (ap (λ (x : SeatView W C). x.view.hand.filled) (unheld there))) (sym e)),
)
  where
    put : SeatView W C → SeatView W C
    put x = record x { view = with_hand x.view (record x.view.hand { filled = w.view.hand.filled }); log = w.log }

    arrive : SeatView W C → SeatView W C
    arrive x = record x { view = with_note (with_hand x.view (arriving x.view.hand)) o (told (note x.view o) (Some f)); brought = None; log = t.log }

    give : SeatView W C → SeatView W C
    give x = record x { view = with_hand x.view (arriving x.view.hand); brought = None; log = t.log }
