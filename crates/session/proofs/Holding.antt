-- How the scopes' holds and the seat's stay the same.
use Rattle.std.proofs.Common.{◌≡◌, ◌≢◌, ◌⊎◌, inl, inr, ℕ, suc, ◌+◌, ◌-◌, ◌<◌, Bool, true, false, cond, List, length, refl, sym, ap, ◌∙◌, subst, arith, ne_eqb}
use Rattle.cells.specs.Pieces.{is_piece}
use Rattle.std.specs.Prelude.{◌==◌, Option, Some, None, slice_index_or, slice_set}
use Rattle.std.proofs.lemmas.Bool.Decides.{eqb_tells}
use Rattle.std.proofs.lemmas.List.{get_or-set_same, get_or-set_other, length-set}
use Rattle.pointer_word.specs.Hands.{Note, blank, closed, opened}
use Rattle.object_lock.specs.Seats.{Owns, Sizes, View, note, with_note}
use Rattle.session.specs.declared.hold.Hold.{Hold}
use Rattle.object_moves.specs.Taken.{IsQuiet}
use Rattle.session.specs.State.{State, cells_in, hold_at}
use Rattle.session.specs.Keeping.{Changes, Holds, IsHeld, IsHolding, IsPlaced, a_hold, one, shut_at}
use Rattle.session.proofs.CountsOf.{one_is, one_not, one_le, two_le, count-set}

pub note_set : (v : View) (o : ℕ) (n : Note) (p : ℕ) → o < length v.notes → ((p ≡ o) × (note (with_note v o n) p ≡ n)) ⊎ ((p ≢ o) × (note (with_note v o n) p ≡ note v p))
note_set v o n p l =
    elim (eqb_tells p o) [
      | inl e ↦ inl (e.1, ap (λ q. slice_index_or (slice_set v.notes o n) q blank) e.1 ∙ get_or-set_same v.notes o n blank l)
      | inr e ↦ inr (e.1, get_or-set_other v.notes o p n blank e.1)
    ]

-- what a scope holds becomes x, and the view v
pub holding_with : (s : State) (k : ℕ) (x : Option Hold) (v : View) → IsHolding s → k < length s.holds
    → v.low ≡ s.view.low → v.high ≡ s.view.high → length v.notes ≡ length s.view.notes → v.sizes ≡ s.view.sizes
    → ((o : ℕ) → Owns s.view o → (note v o).count + one o (hold_at s.holds k) ≡ (note s.view o).count + one o x)
    → ((j : ℕ) (h : Hold) → j ≢ k → hold_at s.holds j ≡ Some h → IsHeld s.view h → IsHeld v h)
    → ((h : Hold) → x ≡ Some h → IsHeld v h) → IsQuiet v
    → IsHolding (record s { holds = slice_set s.holds k x; view = v })
holding_with s k x v h l low high wide sizes counts others mine quiet = record {
  low = let a = h.low in omega arith;
  room = let a = h.room in omega arith;
  wide = let a = h.wide in omega arith;
  small = let a = h.small in omega arith;
  cells = ap (λ (z : Sizes). is_piece z.cells) sizes ∙ h.cells;
  placed = subst (λ n. IsPlaced n v.low (cells_in s) s.firsts s.next) (sym (ap (λ (z : Sizes). z.cells) sizes))
      (subst (λ b. IsPlaced s.view.sizes.cells b (cells_in s) s.firsts s.next) (sym low) h.placed);
  held = λ j y e. elim (eqb_tells j k) [
    | inl q ↦ mine y (sym (get_or-set_same s.holds k x None l) ∙ (ap (hold_at (slice_set s.holds k x)) (sym q.1) ∙ e))
    | inr q ↦ let a : hold_at s.holds j ≡ Some y = sym (get_or-set_other s.holds k j x None q.1) ∙ e in others j y q.1 a (h.held j y a)
  ];
  counted = λ o w.
      let own : Owns s.view o = (let a = w.0 in omega arith, let a = w.1 in omega arith) in
      let a = counts o own in
      let b = count-set o s.holds k x l in
      let d = h.counted o own in
      omega arith;
  four = length-set s.holds k x ∙ h.four;
  few = h.few;
  quiet = quiet;
}

-- a scope's hold is one of its object's
pub hold_counts : (s : State) (k : ℕ) (h : Hold) → IsHolding s → hold_at s.holds k ≡ Some h → 0 < (note s.view h.object).count
hold_counts s k h ok e =
    let a = one_le h.object s.holds k in
    let b : one h.object (hold_at s.holds k) ≡ 1 = ap (one h.object) e ∙ one_is h in
    let d = ok.counted h.object (ok.held k h e).owns in
    omega arith

pub held_along : (v : View) (h : Hold) (n m : Note) → note v h.object ≡ m → m.frame ≡ n.frame → (n.writing ≡ true → m.writing ≡ true) → Owns v h.object → h.frame < v.sizes.frames → n.frame ≡ Some h.frame → (h.writes ≡ true → n.writing ≡ true) → IsHeld v h
held_along v h n m e f w owns room here writing = record {
  owns = owns;
  here = ap (λ (y : Note). y.frame) e ∙ (f ∙ here);
  room = room;
  writing = λ b. ap (λ (y : Note). y.writing) e ∙ w (writing b);
}

-- with two holds, a close leaves the frame and the writing
close_keeps : (n : Note) (c : ℕ) → n.count ≡ suc (suc c) → ((closed n).frame ≡ n.frame) × ((closed n).writing ≡ n.writing)
close_keeps n c e =
    let b : (n.count == 1) ≡ false = ne_eqb n.count 1 (λ z. absurd (omega arith)) in
    (ap (λ (z : Bool). cond z None n.frame) b, ap (λ (z : Bool). cond z false n.writing) b)

pub holding_closed : (s : State) (k : ℕ) (g : Hold) → IsHolding s → k < length s.holds → hold_at s.holds k ≡ Some g → IsHolding (shut_at s k (Some g))
holding_closed s k g ok l e =
    let n : Note = note s.view g.object in
    let some = hold_counts s k g ok e in
    let held = ok.held k g e in
    let here : g.object < length s.view.notes = let a = held.owns.1 in let b = ok.wide in omega arith in
    holding_with s k None (with_note s.view g.object (closed n)) ok l refl refl (length-set s.view.notes g.object (closed n)) refl
    (λ o w. elim (note_set s.view g.object (closed n) o here) [
      | inl q ↦
          let a : one o (hold_at s.holds k) ≡ 1 = ap (one o) e ∙ (ap (λ p. one p (Some g)) q.0 ∙ one_is g) in
          let b : (note (with_note s.view g.object (closed n)) o).count ≡ n.count - 1 = ap (λ (y : Note). y.count) q.1 in
          let d : (note s.view o).count ≡ n.count = ap (λ p. (note s.view p).count) q.0 in
          omega arith
      | inr q ↦
          let a : one o (hold_at s.holds k) ≡ 0 = ap (one o) e ∙ one_not o g q.0 in
          let b : (note (with_note s.view g.object (closed n)) o).count ≡ (note s.view o).count = ap (λ (y : Note). y.count) q.1 in
          omega arith
    ])
    (λ j h ne a b. elim (note_set s.view g.object (closed n) h.object here) [
      | inl q ↦
          let two = two_le g.object s.holds j k l ne in
          let x : one g.object (hold_at s.holds j) ≡ 1 = ap (one g.object) a ∙ (ap (λ p. one p (Some h)) (sym q.0) ∙ one_is h) in
          let y : one g.object (hold_at s.holds k) ≡ 1 = ap (one g.object) e ∙ one_is g in
          let d = ok.counted g.object held.owns in
          let m : n.count ≡ suc (suc (n.count - 2)) = omega arith in
          let c = close_keeps n (n.count - 2) m in
          let same : note s.view h.object ≡ n = ap (note s.view) q.0 in
          held_along (with_note s.view g.object (closed n)) h n (closed n) q.1 c.0 (λ z. c.1 ∙ z) b.owns b.room (sym (ap (λ (y : Note). y.frame) same) ∙ b.here) (λ z. sym (ap (λ (y : Note). y.writing) same) ∙ b.writing z)
      | inr q ↦ held_along (with_note s.view g.object (closed n)) h (note s.view h.object) (note s.view h.object) q.1 refl (λ z. z) b.owns b.room b.here b.writing
    ])
    (λ h d. absurd (cc)) ok.quiet

pub holding_shut : (s : State) (k : ℕ) (x : Option Hold) → hold_at s.holds k ≡ x → IsHolding s → k < length s.holds → IsHolding (shut_at s k x)
holding_shut s k None e ok l = ok
holding_shut s k (Some g) e ok l = holding_closed s k g ok l e

pub stored_note : (v : View) (o : ℕ) (n : Note) (p : ℕ) → o < length v.notes → n.history ≡ (note v o).history → (note (with_note v o n) p).history ≡ (note v p).history
stored_note v o n p l e =
    elim (note_set v o n p l) [
      | inl q ↦ ap (λ (y : Note). y.history) q.1 ∙ (e ∙ ap (λ k. (note v k).history) (sym q.0))
      | inr q ↦ ap (λ (y : Note). y.history) q.1
    ]

pub owned_here : (s : State) (o : ℕ) → IsHolding s → Owns s.view o → o < length s.view.notes
owned_here s o ok w = let a = w.1 in let b = ok.wide in omega arith

pub changes_shut : (s t : State) (k : ℕ) (x : Option Hold) → hold_at s.holds k ≡ x → IsHolding s → k < length s.holds → t ≡ shut_at s k x → Changes k s t
changes_shut s t k None e ok l d = subst (λ (u : State). Changes k s u) (sym d) (record { image = refl; core = refl; firsts = refl; next = refl; completed = refl; want = refl; refusals = refl; low = refl; high = refl; seat = refl; stored = λ o. refl; others = λ j ne. refl; many = refl })
changes_shut s t k (Some h) e ok l d =
    let here = owned_here s h.object ok (ok.held k h e).owns in
    subst (λ (u : State). Changes k s u) (sym d)
    (record {
      image = refl;
      core = refl;
      firsts = refl;
      next = refl;
      completed = refl;
      want = refl;
      refusals = refl;
      low = refl;
      high = refl;
      seat = refl;
      stored = λ o. stored_note s.view h.object (closed (note s.view h.object)) o here refl;
      others = λ j ne. get_or-set_other s.holds k j None None ne;
      many = length-set s.holds k None;
    })

-- a scope that held nothing holds o
module _ (s t : State) (k o : ℕ) (ok : IsHolding s) (l : k < length s.holds) (e : hold_at s.holds k ≡ None) (own : Owns s.view o) (h : Holds k o s t) where
  f : ℕ
  f = h.frame

  n : Note
  n = opened (note s.view o) (Some f)

  w : View
  w = with_note s.view o n

  here : o < length s.view.notes
  here = owned_here s o ok own

  at : (p : ℕ) → note t.view p ≡ note w p
  unfolding w n f
  at p = ap (λ (ns : List Note). slice_index_or ns p blank) h.takes.notes

  pub holding_open : IsHolding t
  unfolding w n f at here
  holding_open = subst IsHolding (sym h.same)
      (holding_with s k (Some (a_hold o f false)) t.view ok l h.takes.low h.takes.high (ap length h.takes.notes ∙ length-set s.view.notes o n) h.takes.sizes
      (λ p y.
      let a : one p (hold_at s.holds k) ≡ 0 = ap (one p) e in
      let c : (note t.view p).count ≡ (note w p).count = ap (λ (z : Note). z.count) (at p) in
      elim (note_set s.view o n p here) [
        | inl q ↦
            let b : (note w p).count ≡ (note s.view o).count + 1 = ap (λ (z : Note). z.count) q.1 in
            let d : (note s.view p).count ≡ (note s.view o).count = ap (λ z. (note s.view z).count) q.0 in
            let g : one p (Some (a_hold o f false)) ≡ 1 = ap (λ z. one z (Some (a_hold o f false))) q.0 ∙ one_is (a_hold o f false) in
            omega arith
        | inr q ↦
            let b : (note w p).count ≡ (note s.view p).count = ap (λ (z : Note). z.count) q.1 in
            let g : one p (Some (a_hold o f false)) ≡ 0 = one_not p (a_hold o f false) q.0 in
            omega arith
      ])
      (λ j y ne a b.
      let own' : Owns t.view y.object = (let p = b.owns.0 in let z = h.takes.low in omega arith, let p = b.owns.1 in let z = h.takes.high in omega arith) in
      let room : y.frame < t.view.sizes.frames = let p = b.room in let z = ap (λ (x : Sizes). x.frames) h.takes.sizes in omega arith in
      elim (note_set s.view o n y.object here) [
        | inl q ↦
            let g : (note s.view o).frame ≡ Some y.frame = ap (λ z. (note s.view z).frame) (sym q.0) ∙ b.here in
            held_along t.view y n n (at y.object ∙ q.1) refl (λ z. z) own' room (ap Some (sym (h.takes.same y.frame g))) (λ z. ap (λ p. (note s.view p).writing) (sym q.0) ∙ b.writing z)
        | inr q ↦ held_along t.view y (note s.view y.object) (note s.view y.object) (at y.object ∙ q.1) refl (λ z. z) own' room b.here b.writing
      ])
      (λ y d. let g : a_hold o f false ≡ y = cc in subst (IsHeld t.view) g mine)
      h.takes.quiet)
    where
      mine : IsHeld t.view (a_hold o f false)
      mine = record {
        owns = (let p = own.0 in let z = h.takes.low in omega arith, let p = own.1 in let z = h.takes.high in omega arith);
        here = ap (λ (z : Note). z.frame) (at o) ∙ ap (λ (z : Note). z.frame) (get_or-set_same s.view.notes o n blank here);
        room = let p = h.takes.room in let z = ap (λ (x : Sizes). x.frames) h.takes.sizes in omega arith;
        writing = λ z. absurd (cc);
      }

  pub changes_open : Changes k s t
  unfolding w n f at here
  changes_open = record {
    image = ap (λ (u : State). u.image) h.same;
    core = ap (λ (u : State). u.core) h.same;
    firsts = ap (λ (u : State). u.firsts) h.same;
    next = ap (λ (u : State). u.next) h.same;
    completed = ap (λ (u : State). u.completed) h.same;
    want = ap (λ (u : State). u.want) h.same;
    refusals = ap (λ (u : State). u.refusals) h.same;
    low = h.takes.low;
    high = h.takes.high;
    seat = λ i. (ap (λ (u : State). u.table) h.same i, h.takes.seat i);
    stored = λ p. ap (λ (z : Note). z.history) (at p) ∙ stored_note s.view o n p here refl;
    others = λ j ne. ap (λ (u : State). hold_at u.holds j) h.same ∙ get_or-set_other s.holds k j (Some (a_hold o f false)) None ne;
    many = ap (λ (u : State). length u.holds) h.same ∙ length-set s.holds k (Some (a_hold o f false));
  }

  pub opened_hold : hold_at t.holds k ≡ Some (a_hold o h.frame false)
  opened_hold = ap (λ (u : State). hold_at u.holds k) h.same ∙ get_or-set_same s.holds k (Some (a_hold o h.frame false)) None l

pub changes_trans : (k : ℕ) (s t u : State) → Changes k s t → Changes k t u → Changes k s u
changes_trans k s t u a b = record { image = b.image ∙ a.image; core = b.core ∙ a.core; firsts = b.firsts ∙ a.firsts; next = b.next ∙ a.next; completed = b.completed ∙ a.completed; want = b.want ∙ a.want; refusals = b.refusals ∙ a.refusals; low = b.low ∙ a.low; high = b.high ∙ a.high; seat = b.seat ∙ a.seat; stored = λ o. b.stored o ∙ a.stored o; others = λ j ne. b.others j ne ∙ a.others j ne; many = b.many ∙ a.many }

pub changes_none : (k : ℕ) (s : State) → Changes k s s
changes_none k s = record { image = refl; core = refl; firsts = refl; next = refl; completed = refl; want = refl; refusals = refl; low = refl; high = refl; seat = refl; stored = λ o. refl; others = λ j ne. refl; many = refl }
