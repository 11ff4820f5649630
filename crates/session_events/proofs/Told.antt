-- The events of a program that was run to its end.
use Rattle.std.proofs.Common.{◌≡◌, ◌≢◌, ℕ, suc, ◌+◌, Bool, true, false, cond, List, ◌∷◌, [], length, refl, sym, ap, ◌∙◌, subst, inl, inr, arith}
use Rattle.std.specs.Prelude.{◌⊎◌, None, Option, Some, slice_index_or}
use Rattle.atomic_table.specs.Seated.{TableId}
use Rattle.cells.specs.declared.ending.Run as ending
use Rattle.cells.specs.declared.ending.Run.TheVariants as Run
use Rattle.cells.specs.declared.ending.Want.{Want}
use Rattle.cells.specs.declared.ending.Want.TheVariants.{NoObjects, OutOfMemory, StoreFailed}
use Rattle.code_form.specs.Code.{Core, effect, is_blocked, output_of}
use Rattle.code_form.specs.Form.{Image}
use Rattle.code_form.specs.Touches.{touch_of}
use Rattle.code_form.specs.declared.touch.Cell.{Cell}
use Rattle.code_form.specs.declared.touch.Touch.{Touch}
use Rattle.code_form.specs.declared.touch.Touch.TheVariants as touch
use Rattle.pointer_word.specs.Hands.{Hand, Note, blank}
use Rattle.object_lock.specs.Seats.{View}
use Rattle.remote_store.specs.Refusing.{no_refusals}
use Rattle.remote_store.specs.declared.port.Refusals.{Refusals}
use Rattle.session.specs.declared.hold.Hold as own
use Rattle.session.specs.Keeping.{IsNext, cleared, shut_at, wants}
use Rattle.session.specs.Performing.{Acts, HoldsWanted, LosesAt, Performs, PerformsBy, WantsNext, done_with, shut_all}
use Rattle.session.specs.State as session
use Rattle.session.proofs.Alike.{at_all}
use Rattle.program_run.specs.Acting.{IsUnused, Share, session_begun}
use Rattle.program_run.specs.Executed.{EndsAs, HasRefused, IsFinishedOver}
use Rattle.program_run.specs.declared.run.Finished.{Finished}
use Rattle.world_semantics.specs.Programs.{Setting, begun}
use Rattle.session_events.specs.Knowing.{Goes}
use Rattle.session_events.specs.Laws.{DoesByEvents, EndsByEvents, IsAtEnd, IsKnown, mode_of, program_of, setting_of, setting_with, unused}
use Rattle.session_events.proofs.Causes.{caused_since}
use Rattle.session_events.proofs.Ending.{first_stays, shut_stays}
use Rattle.session_events.proofs.Instructions.{all}
use Rattle.session_events.proofs.Stated.{gave_in, missed_so, stated, took_so}
use Rattle.session_events.proofs.Wanting.{runs}

-- ---- what instructions that are completed leave

-- nothing is wanted that was not before, and no call was refused
pub record Keeps (s t : session.State) : Type 0 where
  pub want : t.want ≡ s.want
  pub refusals : t.refusals ≡ s.refusals

same_keeps : (s t : session.State) → t ≡ s → Keeps s t
same_keeps s t e = record { want = ap (λ (x : session.State). x.want) e; refusals = ap (λ (x : session.State). x.refusals) e }

then_keeps : (s u t : session.State) → Keeps s u → Keeps u t → Keeps s t
then_keeps s u t a b = record { want = b.want ∙ a.want; refusals = b.refusals ∙ a.refusals }

shut_keeps : (s : session.State) (k : ℕ) (x : Option own.Hold) → Keeps s (shut_at s k x)
shut_keeps s k x = let a = shut_stays s k x in record { want = a.want; refusals = a.refusals }

holds_keeps : (k : ℕ) (w : Option Cell) (s u : session.Logged) → HoldsWanted k w s u → Keeps s.state u.state
holds_keeps k None s u h =
    let x : session.State = s.state in
    then_keeps x (shut_at x k (session.hold_at x.holds k)) u.state (shut_keeps x k (session.hold_at x.holds k)) (same_keeps (shut_at x k (session.hold_at x.holds k)) u.state h.0)
holds_keeps k (Some a) s u h =
    elim (took_so k (session.object_of s.state a) s u h) [
      | inl b ↦ same_keeps s.state u.state b.1
      | inr b ↦
          let c = shut_keeps s.state k (session.hold_at s.state.holds k) in
          record { want = ap (λ (x : session.State). x.want) b.2.same ∙ c.want; refusals = ap (λ (x : session.State). x.refusals) b.2.same ∙ c.refusals }
    ]

writing_keeps : (s : session.State) (k : ℕ) (h : own.Hold) (b : Bool) → Keeps s (cond b s (cleared s k h))
writing_keeps s k h true = same_keeps s s refl
writing_keeps s k h false = record { want = refl; refusals = refl }

-- so where it is done with what is kept
done_keeps : (s : session.State) (u t : session.Logged) (v : ℕ) → Keeps s u.state → t ≡ done_with u v → Keeps s t.state
done_keeps s u t v a e = record { want = ap (λ (y : session.Logged). y.state.want) e ∙ a.want; refusals = ap (λ (y : session.Logged). y.state.refusals) e ∙ a.refusals }

performs_keeps : (honest : Type 0) (x : Touch) (s t : session.Logged) → Performs honest x s t → Keeps s.state t.state
performs_keeps honest touch.Plain s t d = done_keeps s.state s t 0 (same_keeps s.state s.state refl) d
performs_keeps honest (touch.Hints w) s t d = done_keeps s.state s t 0 (same_keeps s.state s.state refl) d
performs_keeps honest (touch.Aims k w) s t d = done_keeps s.state d.0 t 0 (holds_keeps k w s d.0 d.1) d.2
performs_keeps honest (touch.Loads k a) s t d = done_keeps s.state s t d.3.0 (same_keeps s.state s.state refl) d.3.2
performs_keeps honest (touch.Stores k a v) s t d =
    let c = writing_keeps s.state k d.0 d.0.writes in
    record { want = ap (λ (y : session.State). y.want) d.3 ∙ c.want; refusals = ap (λ (y : session.State). y.refusals) d.3 ∙ c.refusals }
performs_keeps honest (touch.Leaves k) s t d =
    let x : session.State = s.state in
    let c = shut_keeps x k (session.hold_at x.holds k) in
    done_keeps x d.0 t 0 (then_keeps x (shut_at x k (session.hold_at x.holds k)) d.0.state c (same_keeps (shut_at x k (session.hold_at x.holds k)) d.0.state d.1.0)) d.2
performs_keeps honest (touch.Allocs n) s t d = record { want = ap (λ (y : session.Logged). y.state.want) d.1; refusals = ap (λ (y : session.Logged). y.state.refusals) d.1 }
performs_keeps honest touch.Ends s t d =
    let x : session.State = s.state in
    let c = first_stays (length x.holds) x in
    done_keeps x d.0 t 0 (then_keeps x (shut_all x) d.0.state (record { want = c.want; refusals = c.refusals }) (same_keeps (shut_all x) d.0.state d.1.0)) d.2
performs_keeps honest touch.Wrong s t d = absurd d
performs_keeps honest touch.Nothing s t d = absurd d

pub all_keep : (honest : Type 0) (us : List session.Logged) (s t : session.Logged) → PerformsBy honest us s t → Keeps s.state t.state
all_keep honest [] s t d = same_keeps s.state t.state (ap stated d)
all_keep honest (u ∷ us) s t d = then_keeps s.state u.state t.state (performs_keeps honest d.0.touch s u d.0.performed) (all_keep honest us u t d.1)

-- ---- a want of the store is for a call that was refused

-- a call was refused for an aim, which is the next instruction still
still_next : (reliable : Type 0) (x : Touch) (u z t : session.Logged) → IsNext x u.state → LosesAt reliable x u z → t.state ≡ wants (shut_all z.state) StoreFailed
    → (k : ℕ) × (a : Cell) × (session.next_touch t.state ≡ touch.Aims k (Some a)) × (is_blocked t.state.core ≡ false)
still_next reliable (touch.Aims k (Some a)) u z t next lost e =
    let c = shut_stays u.state k (session.hold_at u.state.holds k) in
    let b = first_stays (length z.state.holds) z.state in
    let same = (missed_so reliable k (session.object_of u.state a) u z lost).2.same in
    let core : t.state.core ≡ u.state.core = ap (λ (y : session.State). y.core) e ∙ b.core ∙ ap (λ (y : session.State). y.core) same ∙ c.core in
    let image : t.state.image ≡ u.state.image = ap (λ (y : session.State). y.image) e ∙ b.image ∙ ap (λ (y : session.State). y.image) same ∙ c.image in
    (k, a, ap (λ (i : Image). touch_of (effect i t.state.core)) image ∙ ap (λ (d : Core). touch_of (effect u.state.image d)) core ∙ next.is, ap is_blocked core ∙ next.free)
still_next reliable (touch.Aims k None) u z t next lost e = absurd lost
still_next reliable touch.Plain u z t next lost e = absurd lost
still_next reliable (touch.Hints w) u z t next lost e = absurd lost
still_next reliable (touch.Loads k a) u z t next lost e = absurd lost
still_next reliable (touch.Stores k a v) u z t next lost e = absurd lost
still_next reliable (touch.Leaves k) u z t next lost e = absurd lost
still_next reliable (touch.Allocs m) u z t next lost e = absurd lost
still_next reliable touch.Ends u z t next lost e = absurd lost
still_next reliable touch.Wrong u z t next lost e = absurd lost
still_next reliable touch.Nothing u z t next lost e = absurd lost

not_halted : (t : session.State) (k : ℕ) (a : Cell) → session.next_touch t ≡ touch.Aims k (Some a) → is_blocked t.core ≡ false → session.IsHalted t → ⊥
not_halted t k a next free h = elim h [
  | inl wrong ↦ cc (next, wrong)
  | inr more ↦ elim more [
    | inl nothing ↦ cc (next, nothing)
    | inr blocked ↦ cc (free, blocked)
  ]
]

never_halted : (reliable : Type 0) (s u t : session.Logged) → Keeps s.state u.state → s.state.refusals ≡ no_refusals → WantsNext reliable StoreFailed u t → HasRefused (Run.Wanted StoreFailed) t.state.refusals → session.IsHalted t.state → ⊥
never_halted reliable s u t kept none d refused halted = elim d.came [
  | inl b ↦ let n = still_next reliable b.0 u b.1 t b.2 b.3 (gave_in b.1 t b.4) in not_halted t.state n.0 n.1 n.2 n.3 halted
  | inr b ↦
      let a = first_stays (length u.state.holds) u.state in
      let same : t.state.refusals ≡ no_refusals = ap (λ (y : session.State). y.refusals) (gave_in u t b.1) ∙ a.refusals ∙ kept.refusals ∙ none in
      let count : 0 ≡ 1 = sym (ap (λ (r : Refusals). r.count) same) ∙ refused.0 in
      omega (arith, count)
]

-- ---- the end

-- what a session came to, from its beginning on, is what its program does by events that lead to its end
abbrev ComesToEnd : Image → session.State → session.State → ending.Run → Type 0
ComesToEnd C s t r = (q : session.State) × DoesByEvents s q × IsAtEnd C (program_of q) r × (q.core ≡ t.core) × (q.completed ≡ t.completed)

is_text : (x : Touch) → (x ≡ touch.Ends) ⊎ (x ≢ touch.Ends)
is_text touch.Ends = inl refl
is_text touch.Plain = inr (λ e. cc e)
is_text (touch.Hints w) = inr (λ e. cc e)
is_text (touch.Aims k w) = inr (λ e. cc e)
is_text (touch.Loads k a) = inr (λ e. cc e)
is_text (touch.Stores k a v) = inr (λ e. cc e)
is_text (touch.Leaves k) = inr (λ e. cc e)
is_text (touch.Allocs m) = inr (λ e. cc e)
is_text touch.Wrong = inr (λ e. cc e)
is_text touch.Nothing = inr (λ e. cc e)

pub wants_so : (reliable : Type 0) (w : Want) (u t : session.Logged) → WantsNext reliable w u t → t.state.want ≡ Some w
wants_so reliable NoObjects u t d = ap (λ (y : session.Logged). y.state.want) d.came.2
wants_so reliable OutOfMemory u t d = ap (λ (y : session.Logged). y.state.want) d.came.2
wants_so reliable StoreFailed u t d = elim d.came [
  | inl b ↦ ap (λ (y : session.State). y.want) (gave_in b.1 t b.4)
  | inr b ↦ ap (λ (y : session.State). y.want) (gave_in u t b.1)
]

module _ (honest reliable : Type 0) (objects : ℕ) (C : Image) (s t : session.Logged) (none : s.state.refusals ≡ no_refusals) (open_want : s.state.want ≡ None) (image : t.state.image ≡ C) where
  refused_memory : (d : Acts honest reliable s t (Run.Wanted OutOfMemory)) → (session.next_touch t.state ≡ touch.Ends) ⊎ (session.next_touch t.state ≢ touch.Ends) → ComesToEnd C s.state t.state (Run.Wanted OutOfMemory)
  refused_memory d (inl text) =
      let u : session.State = d.0.state in
      let e : t.state ≡ wants u OutOfMemory = ap stated d.2.came.2 in
      let core : u.core ≡ t.state.core = sym (ap (λ (y : session.State). y.core) e) in
      let kept = all_keep honest d.1.0 s d.0 d.1.1 in
      let next : touch_of (effect C u.core) ≡ touch.Ends = ap (λ (x : Core). touch_of (effect C x)) core ∙ ap (λ (i : Image). touch_of (effect i t.state.core)) (sym image) ∙ text in
      (u, all honest d.1.0 s d.0 d.1.1, inr (ap mode_of (kept.want ∙ open_want), next), core, sym (ap (λ (y : session.State). y.completed) e))
  refused_memory d (inr other) =
      (t.state, runs honest reliable s t (Run.Wanted OutOfMemory) d (λ e. absurd (let no : ⊥ = cc e in no)) (λ e. other), inl (ap mode_of (wants_so reliable OutOfMemory d.0 t d.2)), refl, refl)

  comes_to : (r : ending.Run) → Acts honest reliable s t r → EndsAs reliable objects C t.state.core r → HasRefused r t.state.refusals → ComesToEnd C s.state t.state r
  comes_to Run.Running d ends refused = absurd ends
  comes_to (Run.Stopped x) d ends refused =
      let kept = all_keep honest d.0 s t d.1 in
      (t.state, all honest d.0 s t d.1, (ap mode_of (kept.want ∙ open_want), ends), refl, refl)
  comes_to (Run.Wanted NoObjects) d ends refused =
      (t.state, runs honest reliable s t (Run.Wanted NoObjects) d (λ e. absurd (let no : ⊥ = cc e in no)) (λ e. absurd (let no : ⊥ = cc e in no)), ap mode_of (wants_so reliable NoObjects d.0 t d.2), refl, refl)
  comes_to (Run.Wanted OutOfMemory) d ends refused = refused_memory d (is_text (session.next_touch t.state))
  comes_to (Run.Wanted StoreFailed) d ends refused =
      let kept = all_keep honest d.1.0 s d.0 d.1.1 in
      (t.state, runs honest reliable s t (Run.Wanted StoreFailed) d (λ e. never_halted reliable s d.0 t kept none d.2 refused) (λ e. absurd (let no : ⊥ = cc e in no)), ap mode_of (wants_so reliable StoreFailed d.0 t d.2), refl, refl)

-- what an unused seat knows
knows_unused : (v : View) → IsUnused v → IsKnown v unused
knows_unused v is = record {
  nothing = (refl, refl, (refl, refl));
  past = sym (ap (λ (h : Hand). h.past) is.0);
  notes = λ o mine. sym (ap (λ (ns : List Note). slice_index_or ns o blank) is.1 ∙ at_all blank v.sizes.objects o);
}

pub told : (reliable : Type 0) (w : Share) (C : Image) (f : Finished) → IsFinishedOver reliable w C f → EndsByEvents (setting_with w C) f
told reliable w C f is =
    let a = is.acted in
    let t : session.State = a.last.state in
    let v : View = a.acted.0 in
    let s : session.State = session.begin t.table C v no_refusals in
    let first : session.Logged = session_begun t.table C v in
    let same = a.acted.2 in
    let refused : HasRefused f.end.run t.refusals = subst (HasRefused f.end.run) a.refusals is.own in
    let ends : EndsAs reliable w.objects C t.core f.end.run = subst (λ (c : Core). EndsAs reliable w.objects C c f.end.run) (sym a.core) is.executed.ends in
    let end = comes_to (Unit {0}) reliable w.objects C first a.last refl refl same.0 f.end.run a.acted.3 ends refused in
    let q : session.State = end.0 in
    let by = end.1 unused (knows_unused v a.acted.1) in
    let low : t.view.low ≡ v.low = same.1 in
    let high : t.view.high ≡ v.high = same.2 in
    let made : ℕ → ℕ → ℕ → ℕ → Setting = λ size base limit mover. record { size = size; base = base; limit = limit; mover = mover; image = C } in
    let cells : v.sizes.cells ≡ C.piece = sym (ap (λ (x : TableId × View). x.1.sizes.cells) same.3) ∙ a.cells in
    let behind : v.high ≡ w.first + w.objects = sym high ∙ a.share ∙ ap (λ n. n + w.objects) a.first in
    let mover : v.number ≡ suc w.program = sym (ap (λ (x : TableId × View). x.1.number) same.3) ∙ a.mover in
    let here : setting_of s ≡ setting_with w C =
    ap (λ n. made n v.low v.high v.number) cells ∙ ap (λ n. made C.piece n v.high v.number) (sym low ∙ a.first) ∙ ap (λ n. made C.piece w.first n v.number) behind ∙ ap (made C.piece w.first (w.first + w.objects)) mover in
    let goes : Goes (setting_with w C) (begun C) unused by.0 (program_of q) by.1 = subst (λ (g : Setting). Goes g (begun C) unused by.0 (program_of q) by.1) here by.2 in
    record {
      events = by.0;
      program = program_of q;
      known = by.1;
      goes = goes;
      ended = end.2;
      caused = λ want m. caused_since (setting_with w C) want (program_of q) by.1 by.0 goes m;
      completed = end.4 ∙ sym a.completed;
      printed = ap output_of end.3 ∙ sym a.printed;
    }
