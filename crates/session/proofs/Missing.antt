-- A hold that could not be opened, as the store refused a call.
use Rattle.std.proofs.Common.{◌≡◌, inl, inr, ℕ, ◌+◌, ◌-◌, ◌<◌, Bool, true, false, List, length, refl, sym, ap, ◌∙◌, subst, arith}
use Rattle.cells.specs.Pieces.{is_piece}
use Rattle.std.specs.Prelude.{Some, None, MatchBool, slice_index_or}
use Rattle.std.proofs.lemmas.List.{length-set}
use Rattle.pointer_word.specs.Hands.{Note, blank, closed, opened}
use Rattle.object_lock.specs.Seats.{Owns, Sizes, View, note, with_note}
use Rattle.session.specs.declared.hold.Hold.{Hold}
use Rattle.object_moves.specs.Taken.{Refused}
use Rattle.session.specs.State.{State, cells_in, hold_at}
use Rattle.session.specs.Keeping.{Changes, Fails, Holds, HoldsObject, IsHeld, IsHolding, IsPlaced, Misses}
use Rattle.session.proofs.Holding.{changes_open, changes_trans, held_along, holding_open, note_set, owned_here, stored_note}
use Rattle.session.proofs.Writing.{holds_one}

module _ (reliable : Type 0) (s t : State) (o : ℕ) (ok : IsHolding s) (own : Owns s.view o) (m : Misses reliable o s t) where
  n : Note
  n = closed (opened (note s.view o) None)

  w : View
  w = with_note s.view o n

  here : o < length s.view.notes
  here = owned_here s o ok own

  at : (p : ℕ) → note t.view p ≡ note w p
  unfolding w n
  at p = ap (λ (ns : List Note). slice_index_or ns p blank) m.gives.notes

  pub holding_missed : IsHolding t
  unfolding w n at here
  holding_missed = subst IsHolding (sym m.same) (record {
    low = let a = ok.low in let b = m.gives.low in omega arith;
    room = let a = ok.room in let b = m.gives.high in omega arith;
    wide = let a = ok.wide in let b = m.gives.high in let c : length t.view.notes ≡ length s.view.notes = ap length m.gives.notes ∙ length-set s.view.notes o n in omega arith;
    small = let a = ok.small in let b = m.gives.high in omega arith;
    cells = ap (λ (z : Sizes). is_piece z.cells) m.gives.sizes ∙ ok.cells;
    placed = subst (λ n. IsPlaced n t.view.low (cells_in s) s.firsts s.next) (sym (ap (λ (z : Sizes). z.cells) m.gives.sizes))
        (subst (λ b. IsPlaced s.view.sizes.cells b (cells_in s) s.firsts s.next) (sym m.gives.low) ok.placed);
    held = λ k h e. still k h e (ok.held k h e);
    counted = λ p y.
        let mine : Owns s.view p = (let a = y.0 in let b = m.gives.low in omega arith, let a = y.1 in let b = m.gives.high in omega arith) in
        ok.counted p mine ∙ sym (ap (λ (z : Note). z.count) (at p) ∙ same_count p);
    four = ok.four;
    few = ok.few;
    quiet = m.gives.quiet;
  })
    where
      same_count : (p : ℕ) → (note w p).count ≡ (note s.view p).count
      same_count p = elim (note_set s.view o n p here) [
        | inl q ↦
            let a : (note w p).count ≡ (note s.view o).count + 1 - 1 = ap (λ (z : Note). z.count) q.1 in
            let b : (note s.view p).count ≡ (note s.view o).count = ap (λ z. (note s.view z).count) q.0 in omega arith
        | inr q ↦ ap (λ (z : Note). z.count) q.1
      ]

      still : (k : ℕ) (h : Hold) → hold_at s.holds k ≡ Some h → IsHeld s.view h → IsHeld t.view h
      still k h e b =
          let own' : Owns t.view h.object = (let p = b.owns.0 in let z = m.gives.low in omega arith, let p = b.owns.1 in let z = m.gives.high in omega arith) in
          let room : h.frame < t.view.sizes.frames = let p = b.room in let z = ap (λ (x : Sizes). x.frames) m.gives.sizes in omega arith in
          elim (note_set s.view o n h.object here) [
            | inl q ↦ absurd (let g : None ≡ Some h.frame = sym m.gives.unknown ∙ (ap (λ z. (note s.view z).frame) (sym q.0) ∙ b.here) in cc)
            | inr q ↦ held_along t.view h (note s.view h.object) (note s.view h.object) (at h.object ∙ q.1) refl (λ z. z) own' room b.here b.writing
          ]

  pub fails_missed : Fails reliable s t
  unfolding w n at here
  fails_missed = (
    record {
      image = ap (λ (u : State). u.image) m.same;
      core = ap (λ (u : State). u.core) m.same;
      firsts = ap (λ (u : State). u.firsts) m.same;
      next = ap (λ (u : State). u.next) m.same;
      completed = ap (λ (u : State). u.completed) m.same;
      want = ap (λ (u : State). u.want) m.same;
      refusals = refl;
      low = m.gives.low;
      high = m.gives.high;
      seat = λ i. (ap (λ (u : State). u.table) m.same i, m.gives.seat i);
      stored = λ p. ap (λ (z : Note). z.history) (at p) ∙ stored_note s.view o n p here refl;
    },
    m.refused,
  )

-- what is held after a hold was opened, or could not be
pub reopened_holding : (reliable : Type 0) (s t : State) (k o : ℕ) (b : Bool) → IsHolding s → k < length s.holds → hold_at s.holds k ≡ None → Owns s.view o → MatchBool b (Holds k o s t) (Misses reliable o s t) → IsHolding t
reopened_holding reliable s t k o true ok l e own h = holding_open s t k o ok l e own h
reopened_holding reliable s t k o false ok l e own h = holding_missed reliable s t o ok own h

pub reopened : (reliable : Type 0) (s t : State) (k o : ℕ) (b : Bool) → IsHolding s → k < length s.holds → hold_at s.holds k ≡ None → Owns s.view o → MatchBool b (Holds k o s t) (Misses reliable o s t)
    → MatchBool b (Changes k s t × HoldsObject t k o) (Fails reliable s t)
reopened reliable s t k o true ok l e own h = (changes_open s t k o ok l e own h, holds_one s t k o ok l e own h)
reopened reliable s t k o false ok l e own h = fails_missed reliable s t o ok own h

-- the store refused a call after a scope was shut
pub shut_first : (reliable : Type 0) (k : ℕ) (s t u : State) → Changes k s t → Fails reliable t u → Fails reliable s u
shut_first reliable k s t u a f = (
  record {
    image = f.0.image ∙ a.image;
    core = f.0.core ∙ a.core;
    firsts = f.0.firsts ∙ a.firsts;
    next = f.0.next ∙ a.next;
    completed = f.0.completed ∙ a.completed;
    want = f.0.want ∙ a.want;
    refusals = f.0.refusals;
    low = f.0.low ∙ a.low;
    high = f.0.high ∙ a.high;
    seat = f.0.seat ∙ a.seat;
    stored = λ o. f.0.stored o ∙ a.stored o;
  },
  subst (λ n. Refused reliable n u.refusals) a.refusals f.1,
)

pub shut_then : (reliable : Type 0) (k o : ℕ) (s t u : State) (b : Bool) → Changes k s t → MatchBool b (Changes k t u × HoldsObject u k o) (Fails reliable t u) → MatchBool b (Changes k s u × HoldsObject u k o) (Fails reliable s u)
shut_then reliable k o s t u true a m = (changes_trans k s t u a m.0, m.1)
shut_then reliable k o s t u false a m = shut_first reliable k s t u a m
