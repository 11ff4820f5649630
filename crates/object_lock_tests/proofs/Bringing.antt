-- An object that its owner brings back into a frame.
use Rattle.std.proofs.Common.{◌≡◌, ℕ, ◌<◌, length, length-set, refl, sym, ap, ◌∙◌, subst, arith}
use Rattle.std.specs.Prelude.{None, Some}
use Rattle.std.proofs.lemmas.List.{get_or-set_same}
use Rattle.pointer_word.specs.Asked.{HasNothing}
use Rattle.pointer_word.specs.Hands.{Hand, Note, blank, opened, told}
use Rattle.object_lock.specs.Plays.{Holds}
use Rattle.object_lock.specs.declared.answers.Held.{Held}
use Rattle.object_lock.specs.declared.answers.Held.TheVariants as H
use Rattle.object_lock.specs.SeatViews.{IsSeat, SeatView, TableView}
use Rattle.object_lock.specs.Telling.{Opened}
use Rattle.object_lock_tests.specs.Standing.{IsOpen, IsShut}
use Rattle.object_lock.specs.Seats.{Sizes, View, Owns, note, with_hand, with_note}

-- the seat has one hold of the object, of which it has a note
abbrev pub HasOne : ℕ → View → Type 0
HasOne o v = Owns v o × ((note v o).count ≡ 1) × (o < length v.notes)

-- it has still, whatever it has in hand
pub still_one : (o : ℕ) (v w : View) (h : Hand) → w ≡ with_hand v h → HasOne o v → HasOne o w
still_one o v w h e one = subst (HasOne o) (sym e) one

pub holds_one : (o : ℕ) (v : View) → HasOne o v → Holds v o
holds_one o v one = (one.0, subst (λ (n : ℕ). 0 < n) (sym one.1) (omega arith))

-- it was told the frame
pub told_one : (o f : ℕ) (v w : View) (h : Hand) → w ≡ with_note (with_hand v h) o (told (note v o) (Some f)) → HasOne o v → Owns w o × ((note w o).count ≡ 1) × ((note w o).frame ≡ Some f)
told_one o f v w h e one =
    let x : Note = told (note v o) (Some f) in
    let here : note w o ≡ x = ap (λ (u : View). note u o) e ∙ get_or-set_same v.notes o x blank one.2 in
    (subst (λ (u : View). Owns u o) (sym e) one.0, ap (λ (n : Note). n.count) here ∙ one.1, ap (λ (n : Note). n.frame) here)

-- it was told the frame that it claimed and filled, where it had the object in hand
pub brought_one : (o f : ℕ) (s t u v w : View) (x y z : Hand) → HasOne o s → t ≡ with_hand s x → u ≡ t → v ≡ with_hand u y → (Holds v o → w ≡ with_note (with_hand v z) o (told (note v o) (Some f)))
    → Owns w o × ((note w o).count ≡ 1) × ((note w o).frame ≡ Some f)
brought_one o f s t u v w x y z one claimed got filled arrived =
    let has = still_one o u v y filled (subst (HasOne o) (sym got) (still_one o s t x claimed one)) in told_one o f v w z (arrived (holds_one o v has)) has

-- a hold that was opened and told of no frame
pub opened_none : {W C : Type 0} (o : ℕ) (s a : SeatView W C) (r : Held) → Opened o s a r → ((f : ℕ) → r ≡ H.Here f → ⊥) → a ≡ record s { view = with_note s.view o (opened (note s.view o) None); log = a.log }
opened_none o s a H.Away told other = told.1
opened_none o s a H.Coming told other = told.1
opened_none o s a (H.Here f) told other = absurd (other f refl)

-- the object of such a hold was found in a frame then
pub found_open : {W C : Type 0} (t : TableView) (o f : ℕ) (s a b : SeatView W C) → IsShut t s o → a ≡ record s { view = with_note s.view o (opened (note s.view o) None); log = a.log }
    → b ≡ record a { view = with_note a.view o (told (note a.view o) (Some f)); log = b.log } → f < a.view.sizes.frames → IsSeat t b → IsOpen t b o f
found_open {W} {C} t o f s a b shut opens tells room seat =
    let own = shut.own.1 in let noted = shut.seat.3 in let x : Note = opened (note s.view o) None in let y : Note = told (note a.view o) (Some f) in
    let at_first : note a.view o ≡ x = ap (λ (v : SeatView W C). note v.view o) opens ∙ get_or-set_same s.view.notes o x blank (omega arith) in
    let long : length a.view.notes ≡ length s.view.notes = ap (λ (v : SeatView W C). length v.view.notes) opens ∙ length-set s.view.notes o x in
    let at_last : note b.view o ≡ y = ap (λ (v : SeatView W C). note v.view o) tells ∙ get_or-set_same a.view.notes o y blank (omega arith) in
    let one : x.count ≡ 1 = let none = shut.count in omega arith in
    record {
      seat = seat;
      own = subst (λ (v : SeatView W C). Owns v.view o) (sym tells) (subst (λ (v : SeatView W C). Owns v.view o) (sym opens) shut.own);
      count = ap (λ (n : Note). n.count) at_last ∙ ap (λ (n : Note). n.count) at_first ∙ one;
      frame = ap (λ (n : Note). n.frame) at_last;
      room = subst (λ (z : Sizes). f < z.frames) (sym (ap (λ (v : SeatView W C). v.view.sizes) tells) ∙ seat.1) room;
      empty = subst (λ (v : SeatView W C). HasNothing v.view.hand) (sym tells) (subst (λ (v : SeatView W C). HasNothing v.view.hand) (sym opens) shut.empty);
    }
