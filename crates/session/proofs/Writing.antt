-- A hold that becomes one for writing, a store, and scopes that are shut one after the other.
use Rattle.std.proofs.Common.{◌≡◌, ◌≢◌, inl, inr, ℕ, ◌+◌, ◌/◌, ◌<◌, ◌≤◌, true, false, cond, List, length, refl, sym, ap, ◌∙◌, subst, arith}
use Rattle.std.specs.Prelude.{◌==◌, Option, Some, None, slice_set}
use Rattle.std.proofs.lemmas.Bool.Decides.{eqb_tells, leb_tells}
use Rattle.std.proofs.lemmas.List.{get_or_past, get_or-set_same, get_or-set_other, length-set, set-get_or}
use Rattle.pointer_word.specs.Hands.{Note, added, blank, known as known_frame, writable}
use Rattle.object_lock.specs.Seats.{Owns, note, with_note}
use Rattle.code_form.specs.declared.touch.Cell.{Cell}
use Rattle.code_form.specs.Placed.{Addresses}
use Rattle.code_form.specs.Touches.{IsCell}
use Rattle.cells.proofs.Pieces.{piece_some}
use Rattle.session.specs.declared.hold.Hold.{Hold}
use Rattle.session.specs.State.{State, cells_in, hold_at, object_of}
use Rattle.session.specs.Keeping.{Changes, Closes, Holds, HoldsObject, IsHeld, IsHolding, a_hold, cleared, count_of, first_of, one, shut, shut_at, written}
use Rattle.session.proofs.Holding.{held_along, hold_counts, holding_with, note_set, owned_here, stored_note, opened_hold}
use Rattle.session.proofs.CountsOf.{count_room}
use Rattle.session.proofs.Places.{first_is, first_low, known, next_is, same_length}

-- what a scope holds may be closed
pub held_owned : (s : State) (k : ℕ) (h : Hold) → IsHolding s → hold_at s.holds k ≡ Some h → Owns s.view h.object × (0 < (note s.view h.object).count)
held_owned s k h ok e = ((ok.held k h e).owns, hold_counts s k h ok e)

holding_noted : (s : State) (k : ℕ) (h : Hold) (n : Note) → IsHolding s → k < length s.holds → hold_at s.holds k ≡ Some h
    → n.count ≡ (note s.view h.object).count → n.frame ≡ (note s.view h.object).frame → ((note s.view h.object).writing ≡ true → n.writing ≡ true)
    → (y : Hold) → y.object ≡ h.object → y.frame ≡ h.frame → (y.writes ≡ true → n.writing ≡ true)
    → IsHolding (record s { holds = slice_set s.holds k (Some y); view = with_note s.view h.object n })
holding_noted s k h n ok l e count frame writing y yo yf yw =
    let held = ok.held k h e in
    let here = owned_here s h.object ok held.owns in
    holding_with s k (Some y) (with_note s.view h.object n) ok l refl refl (length-set s.view.notes h.object n) refl
    (λ p w.
    let c : one p (hold_at s.holds k) ≡ one p (Some y) = ap (one p) e ∙ ap (λ z. cond (z == p) 1 0) (sym yo) in
    elim (note_set s.view h.object n p here) [
      | inl q ↦
          let a : (note (with_note s.view h.object n) p).count ≡ n.count = ap (λ (z : Note). z.count) q.1 in
          let b : (note s.view p).count ≡ (note s.view h.object).count = ap (λ z. (note s.view z).count) q.0 in
          omega arith
      | inr q ↦ let a : (note (with_note s.view h.object n) p).count ≡ (note s.view p).count = ap (λ (z : Note). z.count) q.1 in omega arith
    ])
    (λ j g ne a b. elim (note_set s.view h.object n g.object here) [
      | inl q ↦
          let same : note s.view g.object ≡ note s.view h.object = ap (note s.view) q.0 in
          held_along (with_note s.view h.object n) g (note s.view g.object) n q.1 (frame ∙ ap (λ (z : Note). z.frame) (sym same)) (λ z. writing (ap (λ (x : Note). x.writing) (sym same) ∙ z)) b.owns b.room b.here b.writing
      | inr q ↦ held_along (with_note s.view h.object n) g (note s.view g.object) (note s.view g.object) q.1 refl (λ z. z) b.owns b.room b.here b.writing
    ])
    (λ g d.
    let z : y ≡ g = cc in
    subst (IsHeld (with_note s.view h.object n)) z
    (record {
      owns = (let a = held.owns.0 in omega arith, let a = held.owns.1 in omega arith);
      here = at y.object yo ∙ (frame ∙ (held.here ∙ ap Some (sym yf)));
      room = let a = held.room in omega arith;
      writing = λ x. noted y.object yo ∙ yw x;
    }))
    ok.quiet
  where
    at : (o : ℕ) → o ≡ h.object → (note (with_note s.view h.object n) o).frame ≡ n.frame
    at o q = ap (λ z. (note (with_note s.view h.object n) z).frame) q ∙ ap (λ (x : Note). x.frame) (get_or-set_same s.view.notes h.object n blank (owned_here s h.object ok (ok.held k h e).owns))

    noted : (o : ℕ) → o ≡ h.object → (note (with_note s.view h.object n) o).writing ≡ n.writing
    noted o q = ap (λ z. (note (with_note s.view h.object n) z).writing) q ∙ ap (λ (x : Note). x.writing) (get_or-set_same s.view.notes h.object n blank (owned_here s h.object ok (ok.held k h e).owns))

pub holding_cleared : (s t : State) (k : ℕ) (h : Hold) → IsHolding s → k < length s.holds → hold_at s.holds k ≡ Some h → t ≡ cleared s k h → IsHolding t
holding_cleared s t k h ok l e d =
    let may : known_frame (note s.view h.object).frame ≡ true = ap known_frame (ok.held k h e).here in
    subst IsHolding (sym d) (holding_noted s k h (writable (note s.view h.object)) ok l e refl refl (λ _. may) (a_hold h.object h.frame true) refl refl (λ _. may))

pub changes_cleared : (s t : State) (k : ℕ) (h : Hold) → IsHolding s → k < length s.holds → hold_at s.holds k ≡ Some h → t ≡ cleared s k h → Changes k s t
changes_cleared s t k h ok l e d =
    subst (λ (u : State). Changes k s u) (sym d)
    (record {
      image = refl;
      core = refl;
      firsts = refl;
      next = refl;
      completed = refl;
      want = refl;
      refusals = refl;
      low = refl;
      high = refl;
      seat = refl;
      stored = λ o. stored_note s.view h.object (writable (note s.view h.object)) o (owned_here s h.object ok (ok.held k h e).owns) refl;
      others = λ j ne. get_or-set_other s.holds k j (Some (a_hold h.object h.frame true)) None ne;
      many = length-set s.holds k (Some (a_hold h.object h.frame true));
    })

pub cleared_hold : (s t : State) (k : ℕ) (h : Hold) → k < length s.holds → t ≡ cleared s k h → hold_at t.holds k ≡ Some (a_hold h.object h.frame true)
cleared_hold s t k h l d = ap (λ (u : State). hold_at u.holds k) d ∙ get_or-set_same s.holds k (Some (a_hold h.object h.frame true)) None l

pub writer_is : (h : Hold) → h.writes ≡ true → Some h ≡ Some (a_hold h.object h.frame true)
writer_is h e = ap (λ b. Some (a_hold h.object h.frame b)) e

pub holding_written : (s t : State) (k : ℕ) (h : Hold) (i v : ℕ) → IsHolding s → k < length s.holds → hold_at s.holds k ≡ Some (a_hold h.object h.frame true) → t ≡ written s h i v → IsHolding t
holding_written s t k h i v ok l e d =
    let w : Hold = a_hold h.object h.frame true in
    let z = holding_noted s k w (added (note s.view h.object) i v) ok l e refl refl (λ x. x) w refl refl (λ _. (ok.held k w e).writing refl) in
    let set : slice_set s.holds k (Some w) ≡ s.holds = ap (slice_set s.holds k) (sym e) ∙ set-get_or s.holds k None in
    subst IsHolding (sym d) (subst (λ hs. IsHolding (record s { holds = hs; view = with_note s.view h.object (added (note s.view h.object) i v) })) set z)

-- one scope more is shut
pub shut_more : (s t : State) (k : ℕ) → t ≡ shut s k → k < length s.holds → ((j : ℕ) → j < k → hold_at s.holds j ≡ None) → (j : ℕ) → j < k + 1 → hold_at t.holds j ≡ None
shut_more s t k e l h j m = ap (λ (u : State). hold_at u.holds j) e ∙ go (hold_at s.holds k) refl
  where
    go : (x : Option Hold) → hold_at s.holds k ≡ x → hold_at (shut_at s k x).holds j ≡ None
    go x q = elim (eqb_tells j k) [ inl y ↦ at x q y.1 | inr y ↦ below x y.1 ]
      where
        at : (x : Option Hold) → hold_at s.holds k ≡ x → j ≡ k → hold_at (shut_at s k x).holds j ≡ None
        at None q y = ap (hold_at s.holds) y ∙ q
        at (Some g) q y = ap (hold_at (slice_set s.holds k None)) y ∙ get_or-set_same s.holds k None None l

        below : (x : Option Hold) → j ≢ k → hold_at (shut_at s k x).holds j ≡ None
        below None y = h j (omega arith)
        below (Some g) y = get_or-set_other s.holds k j None None y ∙ h j (omega arith)

pub none_past : (hs : List (Option Hold)) (n : ℕ) → n ≡ length hs → ((j : ℕ) → j < n → hold_at hs j ≡ None) → (k : ℕ) → hold_at hs k ≡ None
none_past hs n e h k = elim (leb_tells n k) [ inl l ↦ get_or_past hs k None (let a = l.1 in omega arith) | inr l ↦ h k (let a = l.1 in omega arith) ]

pub closes_more : (s t u : State) (k : ℕ) → Closes s t → Changes k t u → Closes s u
closes_more s t u k a b = record { image = b.image ∙ a.image; core = b.core ∙ a.core; firsts = b.firsts ∙ a.firsts; next = b.next ∙ a.next; completed = b.completed ∙ a.completed; want = b.want ∙ a.want; refusals = b.refusals ∙ a.refusals; low = b.low ∙ a.low; high = b.high ∙ a.high; seat = b.seat ∙ a.seat; stored = λ o. b.stored o ∙ a.stored o }

-- another hold of an object may be opened, where a scope holds nothing
pub may_open : (s : State) (k o : ℕ) → IsHolding s → k < length s.holds → hold_at s.holds k ≡ None → Owns s.view o
    → Owns s.view o × ((note s.view o).count < 4) × (count_of o s.holds ≡ (note s.view o).count)
may_open s k o ok l e own =
    let a = ok.counted o own in
    let b = count_room o s.holds k l e in
    let d = ok.four in
    (own, omega arith, a)

pub holds_one : (s t : State) (k o : ℕ) → IsHolding s → k < length s.holds → hold_at s.holds k ≡ None → Owns s.view o → Holds k o s t → HoldsObject t k o
holds_one s t k o ok l e own h = (a_hold o h.frame false, opened_hold s t k o ok l e own h, refl)

-- a piece has cells
pub some_cells : (s : State) → IsHolding s → 0 < s.view.sizes.cells
some_cells s ok = piece_some _ ok.cells

-- the object of a cell of an allocation is one of the program's own
pub object_owned : (s : State) (a : Cell) → IsHolding s → IsCell s.core a → Addresses s.view.sizes.cells s.view.low (cells_in s)
    → (0 < a.reference) × (a.reference ≤ length s.firsts) × (first_of s.firsts a.reference + a.index / s.view.sizes.cells ≡ object_of s a) × Owns s.view (object_of s a) × (object_of s a < 16777216)
object_owned s a ok l ad =
    let z = known (cells_in s) a.reference a.index l in
    let many = same_length s.view.sizes.cells s.view.low (cells_in s) s.firsts s.next ok.placed in
    let first = first_is s.view.sizes.cells s.view.low (cells_in s) s.firsts s.next a.reference ok.placed z.0 z.1 in
    let low = first_low s.view.sizes.cells s.view.low (cells_in s) a.reference in
    let inside = ad.inside a.reference a.index l in
    let next = next_is s.view.sizes.cells s.view.low (cells_in s) s.firsts s.next ok.placed in
    let room = ok.room in
    let small = ok.small in
    let b = z.1 in
    let there : first_of s.firsts a.reference + a.index / s.view.sizes.cells ≡ object_of s a = ap (λ n. n + a.index / s.view.sizes.cells) first in
    (z.0, omega arith, there, (omega arith, omega arith), omega arith)

pub reference_known : (s : State) (a : Cell) → IsHolding s → IsCell s.core a → (0 < a.reference) × (a.reference ≤ length s.firsts)
reference_known s a ok l =
    let z = known (cells_in s) a.reference a.index l in
    let many = same_length s.view.sizes.cells s.view.low (cells_in s) s.firsts s.next ok.placed in
    let b = z.1 in
    (z.0, omega arith)

pub placed_at : (s : State) (a : Cell) (n m : ℕ) → n ≡ first_of s.firsts a.reference → m ≡ a.index / s.view.sizes.cells → first_of s.firsts a.reference + a.index / s.view.sizes.cells ≡ object_of s a → n + m ≡ object_of s a
placed_at s a n m e f h = (λ i. e i + f i) ∙ h
