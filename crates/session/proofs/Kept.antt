-- What scopes hold, and the seat at which they hold it, where a cell is loaded or stored, or a scope is left.
use Rattle.std.proofs.Common.{◌≡◌, ℕ, ◌%◌, ◌^◌, ◌<◌, true, List, Option, Some, None, length, refl, sym, ap, ◌∙◌, subst, arith, inl, inr}
use Rattle.std.specs.Prelude.{slice_set}
use Rattle.std.proofs.lemmas.Bool.Decides.{leb_tells}
use Rattle.std.proofs.lemmas.List.{get_or_past}
use Rattle.pointer_word.specs.Hands.{added, closed, writable}
use Rattle.object_lock.specs.Seats.{Owns, Sizes, View, note, with_note}
use Rattle.object_lock.specs.SeatViews.{IsSeat, SeatView, TableView}
use Rattle.session.specs.declared.hold.Hold.{Hold}
use Rattle.session.specs.Keeping.{IsHolding, a_hold, cleared, written}
use Rattle.session.specs.Pieces.{IsKept}
use Rattle.session.specs.State.{State, hold_at}
use Rattle.session.proofs.Holding.{holding_closed}
use Rattle.session.proofs.Ways.{load_low, load_may}
use Rattle.session.proofs.Writing.{held_owned, holding_cleared, holding_written}

-- a scope that holds something is there
pub some_low : (hs : List (Option Hold)) (k : ℕ) (h : Hold) → hold_at hs k ≡ Some h → k < length hs
some_low hs k h e =
    elim (leb_tells (length hs) k) [
      | inl l ↦ let none : hold_at hs k ≡ None = get_or_past hs k None (let a = l.1 in omega arith) in let z : Some h ≡ None = sym e ∙ none in absurd (cc)
      | inr l ↦ let a = l.1 in omega arith
    ]

module _ {W C : Type 0} (t : TableView) (shift : ℕ) (hs : List (Option Hold)) (s : SeatView W C) (kept : IsKept t shift hs s) where
  -- a session that holds the same
  abbrev alike : State
  alike = record kept.2.0 { holds = hs; view = s.view }

  pub cells_of : 2 ^ shift ≡ s.view.sizes.cells
  cells_of = kept.1 ∙ ap (λ (z : Sizes). z.cells) (sym kept.0.1)

  pub kept_low : (k : ℕ) (h : Hold) (x i : ℕ) → hold_at hs k ≡ Some h → i ≡ x % 2 ^ shift → (h.frame < t.sizes.frames) × (i < t.sizes.cells)
  kept_low k h x i e p =
      let low = load_low alike k h x i kept.2.1 e (p ∙ ap (λ n. x % n) cells_of) in
      subst (λ (z : Sizes). (h.frame < z.frames) × (i < z.cells)) kept.0.1 low

  pub kept_may : (k : ℕ) (h : Hold) → hold_at hs k ≡ Some h → Owns s.view h.object × ((note s.view h.object).frame ≡ Some h.frame)
  kept_may k h e = load_may alike k h kept.2.1 e

  pub kept_writes : (k : ℕ) (h : Hold) → hold_at hs k ≡ Some h → h.writes ≡ true → (note s.view h.object).writing ≡ true
  kept_writes k h e w = (kept.2.1.held k h e).writing w

  pub kept_owned : (k : ℕ) (h : Hold) → hold_at hs k ≡ Some h → Owns s.view h.object × (0 < (note s.view h.object).count)
  kept_owned k h e = held_owned alike k h kept.2.1 e

  pub kept_closed : (k : ℕ) (h : Hold) (u : SeatView W C) (gs : List (Option Hold)) → hold_at hs k ≡ Some h → IsSeat t u → u ≡ record s { view = with_note s.view h.object (closed (note s.view h.object)); log = u.log } → gs ≡ slice_set hs k None
      → IsKept t shift gs u
  kept_closed k h u gs e is changed set =
      let there = holding_closed alike k h kept.2.1 (some_low hs k h e) e in
      let x = kept.2.0 in
      (is, kept.1, (x, subst (λ (y : List (Option Hold)). IsHolding (record x { holds = y; view = u.view })) (sym set) (subst (λ (v : View). IsHolding (record x { holds = slice_set hs k None; view = v })) (sym (ap (λ (y : SeatView W C). y.view) changed)) there)))

  pub kept_cleared : (k : ℕ) (h : Hold) (u : SeatView W C) (gs : List (Option Hold)) → hold_at hs k ≡ Some h → IsSeat t u → u ≡ record s { view = with_note s.view h.object (writable (note s.view h.object)); log = u.log }
      → gs ≡ slice_set hs k (Some (a_hold h.object h.frame true)) → IsKept t shift gs u
  kept_cleared k h u gs e is changed set =
      let there = holding_cleared alike (cleared alike k h) k h kept.2.1 (some_low hs k h e) e refl in
      let x = kept.2.0 in
      let new = slice_set hs k (Some (a_hold h.object h.frame true)) in
      (is, kept.1, (x, subst (λ (y : List (Option Hold)). IsHolding (record x { holds = y; view = u.view })) (sym set) (subst (λ (v : View). IsHolding (record x { holds = new; view = v })) (sym (ap (λ (y : SeatView W C). y.view) changed)) there)))

  pub kept_stored : (k o f i n : ℕ) (u : SeatView W C) (gs : List (Option Hold)) → hold_at hs k ≡ Some (a_hold o f true) → IsSeat t u → u ≡ record s { view = with_note s.view o (added (note s.view o) i n); log = u.log } → gs ≡ hs
      → IsKept t shift gs u
  kept_stored k o f i n u gs e is changed set =
      let h = a_hold o f true in
      let there = holding_written alike (written alike h i n) k h i n kept.2.1 (some_low hs k h e) e refl in
      let x = kept.2.0 in
      (is, kept.1, (x, subst (λ (y : List (Option Hold)). IsHolding (record x { holds = y; view = u.view })) (sym set) (subst (λ (v : View). IsHolding (record x { holds = hs; view = v })) (sym (ap (λ (y : SeatView W C). y.view) changed)) there)))
