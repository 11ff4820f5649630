-- A session at its beginning is where the run of its code begins; and a covered image's code is never stuck.
use Rattle.std.proofs.Common.{◌≡◌, ◌≢◌, ◌⊎◌, ⊎_elim, inl, inr, ℕ, zero, suc, ◌+◌, ◌<◌, ◌≤◌, true, false, [], refl, sym, ap, ◌∙◌, subst, arith}
use Rattle.cells.specs.Pieces.{is_piece}
use Rattle.std.specs.Prelude.{Option, Some, None, replicate, slice_get, slice_index_or}
use Rattle.cells.specs.Stops.{Stop}
use Rattle.cells.specs.declared.ending.Run.{Run}
use Rattle.cells.specs.declared.ending.Run.TheVariants.{Wanted}
use Rattle.cells.specs.declared.ending.Want.{Want}
use Rattle.cells.specs.declared.ending.Want.TheVariants.{OutOfMemory, NoObjects, StoreFailed}
use Rattle.code_form.specs.Form.{Block, Function, Image}
use Rattle.code_form.specs.Effects.{code_run}
use Rattle.code_form.specs.Code.{Core, Covered, effect, IsCovered, IsStuck, Running, Shut, Stopped, Stuck, allocations_of, begins, cells_of, code, entered, held, held_by, is_blocked, most_scopes, sizes, stop_of}
use Rattle.code_form.specs.Placed.{next_object}
use Rattle.code_form.specs.Touches.{cell_option, loaded, resumed}
use Rattle.code_form.specs.Tracked.{WaitsShut, is_running}
use Rattle.code_form.specs.declared.touch.Touch.TheVariants as touch
use Rattle.pointer_word.specs.Hands.{Note, blank, latest_of}
use Rattle.object_lock.specs.Fresh.{IsFresh}
use Rattle.object_lock.specs.SeatViews.{SeatView, TableView}
use Rattle.object_lock.specs.Seats.{View}
use Rattle.atomic_table.specs.Seated.{TableId}
use Rattle.session.specs.declared.hold.Hold.{Hold}
use Rattle.object_moves.specs.Taken.{Refused}
use Rattle.remote_store.specs.declared.port.Refusals.{Refusals}
use Rattle.session.specs.State.{AllShut, IsAt, IsGoing, IsHalted, Matches, Ran, State, begin, hold_at}
use Rattle.session.specs.Keeping.{IsBlank, IsHolding, IsNext, IsRun, IsSafe, IsSession, count_of}
use Rattle.session.proofs.Laws.{Ended, Laws, ended}
use Rattle.session.proofs.Running.{HeapLaws, live_session, next_run}
use Rattle.session.proofs.Alike.{at_all}

none_count : (o n : ℕ) → count_of o (replicate n None) ≡ 0
none_count o zero = refl
none_count o (suc n) = let e = none_count o n in omega arith

shut_scopes : (n k : ℕ) → held_by [] (slice_get (replicate n Shut) k) ≡ None
shut_scopes zero k = refl
shut_scopes (suc n) zero = refl
shut_scopes (suc n) (suc k) = shut_scopes n k

-- a program that begins has no allocations, holds nothing, and nothing waits for it
record Begins (c : Core) : Type 0 where
  pub none : sizes (allocations_of c) ≡ []
  pub holds : (k : ℕ) → held c k ≡ None
  pub waits : WaitsShut c

begins_so : (main : Option Function) → Begins (begins main)
begins_so None = record { none = refl; holds = λ k. refl; waits = tt }
begins_so (Some g) = at_block (slice_get g.blocks 0)
  where
    at_block : (b : Option Block) → Begins (elim b [ None ↦ Stuck [] [] | Some x ↦ entered g [] None x [] [] [] ])
    at_block None = record { none = refl; holds = λ k. refl; waits = tt }
    at_block (Some x) = record { none = refl; holds = λ k. shut_scopes g.scopes k; waits = tt }

pub blank_seat : {W C : Type 0} (t : TableView) (s : SeatView W C) → IsFresh t s → s.view.low ≤ s.view.high → IsBlank s.view
blank_seat t s f low =
    let seat = f.0 in
    let hand = f.1 in
    record {
      notes = λ o. ap (λ ns. slice_index_or ns o blank) f.2 ∙ at_all blank t.sizes.objects o;
      low = low;
      wide = seat.3;
      small = let a = seat.2 in let b = seat.4.0 in omega arith;
      cells = ap (λ z. is_piece z.cells) seat.1 ∙ seat.4.2;
      quiet = (ap (λ h. h.bringing) hand, ap (λ h. h.leaving) hand, ap (λ h. h.claimed) hand, ap (λ h. h.freed) hand);
    }

pub opened_run : (honest : Type 0) (t : TableId) (C : Image) (v : View) (n : Refusals) → IsBlank v → most_scopes C.functions ≤ 4 → IsRun honest (begin t C v n)
opened_run honest t C v n f few =
    let b = begins_so (slice_get C.functions 0) in
    let none : Option Hold = None in
    record {
      safe = record {
        holding = record {
          low = omega arith;
          room = f.low;
          wide = f.wide;
          small = f.small;
          cells = f.cells;
          placed = subst (λ ns. Rattle.session.specs.Keeping.IsPlaced v.sizes.cells v.low ns [] v.low) (sym b.none) refl;
          held = λ k h e. let z : hold_at (replicate 4 none) k ≡ None = at_all none 4 k in absurd (cc);
          counted = λ o w. none_count o 4 ∙ sym (ap (λ (n : Note). n.count) (f.notes o));
          four = refl;
          few = few;
          quiet = f.quiet;
        };
        scopes = λ k. subst (λ x. Matches (begin t C v n) (cell_option x) (hold_at (replicate 4 none) k)) (sym (b.holds k)) (subst (λ h. Matches (begin t C v n) None h) (sym (at_all none 4 k)) tt);
        waits = b.waits;
      };
      at = λ q. record {
        core = refl;
        going = λ j less. absurd (omega arith);
        fits = subst (λ ns. next_object v.sizes.cells v.low ns ≤ v.high) (sym b.none) f.low;
        heap = record {
          cell = λ r x l. let z : x < cells_of [] r = subst (λ ns. x < cells_of ns r) b.none l in absurd (omega arith);
          fresh = λ o i l m. ap (λ (n : Note). latest_of n.history i) (f.notes o);
          new = λ r x l. refl;
        };
        stored = λ o. ap (λ (n : Note). n.history) (f.notes o);
      };
    }

pub fresh_run : {W C : Type 0} (honest : Type 0) (t : TableView) (s : SeatView W C) (image : Image) → IsFresh t s → s.view.low ≤ s.view.high → most_scopes image.functions ≤ 4 → IsSession honest (begin s.table image s.view s.refusals)
fresh_run honest t s image f low few = live_session honest (begin s.table image s.view s.refusals) (opened_run honest s.table image s.view s.refusals (blank_seat t s f low) few) refl

-- where the program has stopped every scope is shut
stopped_holds : (c : Core) (x : Stop) (k : ℕ) → stop_of c ≡ Some x → held c k ≡ None
stopped_holds (Running f st al o) x k e = cc
stopped_holds (Stopped s al o) x k e = refl
stopped_holds (Stuck al o) x k e = refl

unmatched : (s : State) (h : Option Hold) → Matches s None h → h ≡ None
unmatched s None m = refl
unmatched s (Some h) m = absurd m

run_shut : (honest : Type 0) (s : State) (x : Stop) → IsRun honest s → stop_of s.core ≡ Some x → AllShut s
run_shut honest s x run e k =
    unmatched s (hold_at s.holds k) (subst (λ z. Matches s (cell_option z) (hold_at s.holds k)) (stopped_holds s.core x k e) (run.safe.scopes k))

wants_failed : (w : Option Want) → (w ≡ Some StoreFailed) ⊎ (w ≢ Some StoreFailed)
wants_failed None = inr (λ e. cc)
wants_failed (Some OutOfMemory) = inr (λ e. cc)
wants_failed (Some NoObjects) = inr (λ e. cc)
wants_failed (Some StoreFailed) = inl refl

pub stopped_shut : (honest : Type 0) (s : State) (x : Stop) → IsSession honest s → stop_of s.core ≡ Some x → AllShut s
stopped_shut honest s x session e = ⊎_elim (λ f. session.failed f) (λ d. run_shut honest s x (session.live d) e) (wants_failed s.want)

-- ---- a covered image

covered_free : (n : ℕ) (c : Core) → IsCovered n c → is_blocked c ≡ false
covered_free n (Running f st al o) h = h.1
covered_free n (Stopped s al o) h = refl
covered_free n (Stuck al o) h = absurd h

covered_not_stuck : (n : ℕ) (c : Core) → IsCovered n c → IsStuck c ≡ true → ⊥
covered_not_stuck n (Running f st al o) h e = let z : false ≡ true = e in cc
covered_not_stuck n (Stopped s al o) h e = let z : false ≡ true = e in cc
covered_not_stuck n (Stuck al o) h e = absurd h

covered_running : (n : ℕ) (c : Core) → IsCovered n c → stop_of c ≡ None → is_running c ≡ true
covered_running n (Running f st al o) h e = refl
covered_running n (Stopped s al o) h e = cc
covered_running n (Stuck al o) h e = absurd h

false_true : {A : Type 0} → false ≡ true → A
false_true e = cc

-- the run of a covered image is never stuck, and never blocked
pub never_halted : (honest : Type 0) → Laws → HeapLaws → (s : State) → (honest → IsAt s) → honest → Covered s.image → stop_of s.core ≡ None → IsHalted s → ⊥
never_halted honest laws heaps s at q cover going cause =
    let C = s.image in
    let j = s.completed in
    let a = at q in
    let most = most_scopes C.functions in
    let here : IsCovered most s.core = subst (IsCovered most) (sym a.core) (cover.everywhere j) in
    elim cause [
      | inl wrong ↦
          let n = next_run heaps C j s.core touch.Wrong a.core wrong in
          let stuck : IsStuck (code_run (code C) (j + 1)).0 ≡ true =
          ap (λ z. IsStuck z.0) n ∙ subst (λ y. Ended y s.core (resumed (effect C s.core) s.core (loaded (code_run (code C) j).1 touch.Wrong))) wrong (ended s.core (effect C s.core) _ (laws.ends C s.core)) in
          covered_not_stuck most (code_run (code C) (j + 1)).0 (cover.everywhere (j + 1)) stuck
      | inr other ↦ elim other [
        | inl nothing ↦
            let not : is_running s.core ≡ false = subst (λ y. Ended y s.core (resumed (effect C s.core) s.core 0)) nothing (ended s.core (effect C s.core) 0 (laws.ends C s.core)) in
            false_true (sym not ∙ covered_running most s.core here going)
        | inr blocked ↦ false_true (sym (covered_free most s.core here) ∙ blocked)
      ]
    ]

-- the session of a covered image wants StoreFailed only where the store refused a call
pub never_failed : (honest reliable : Type 0) → Laws → HeapLaws → (n : ℕ) (s t : State) (r : Run) → IsSession honest t → Ran reliable n s t r → honest → Covered s.image → IsGoing s → r ≡ Wanted StoreFailed → Refused reliable s.refusals t.refusals
never_failed honest reliable laws heaps n s t r session told q cover going e =
    let w : Ran reliable n s t (Wanted StoreFailed) = subst (Ran reliable n s t) e told in
    ⊎_elim (λ f. f) (λ (h : (t.refusals ≡ s.refusals) × IsHalted t). absurd (never_halted honest laws heaps t session.at q (subst Covered (sym w.0.0) cover) w.3 h.1)) (w.4 going)
