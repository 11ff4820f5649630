-- in every world that is reached each program's holds are counted and known, its scopes are as its code's, and each call meets what is asked of its caller
use Rattle.std.proofs.Common.{◌≡◌, ◌≢◌, ◌⊎◌, inl, inr, ℕ, zero, suc, ◌+◌, ◌-◌, ◌*◌, ◌<◌, ◌≤◌, Bool, true, false, cond, ◌&&◌, List, [], ◌∷◌, length, Option, Some, None, refl, sym, ap, ◌∙◌, subst, arith}
use Rattle.std.specs.Prelude.{◌/◌, nat_lt, is_some, slice_get, replicate}
use Rattle.std.proofs.lemmas.Bool.Decides.{nat_tests}
use Rattle.std.proofs.lemmas.List.{length-set}
use Rattle.std.proofs.lemmas.Nat.{div-mul-add}
use Rattle.code_form.specs.Form.{Block, Function, Image}
use Rattle.cells.specs.Stops.{Stop}
use Rattle.cells.specs.declared.ending.Want.TheVariants.{OutOfMemory, NoObjects, StoreFailed}
use Rattle.code_form.specs.declared.touch.Touch.TheVariants as touch
use Rattle.code_form.specs.Code.{Core, Running, Stopped, Stuck, Shut, begins, effect, entered, held, held_by, stop_of}
use Rattle.code_form.specs.Touches.{cell_option, touch_of}
use Rattle.pointer_word.specs.Hands.{Note, known, upd}
use Rattle.pointer_word.specs.Machine.{State}
use Rattle.pointer_word.specs.Calls.{Call, act}
use Rattle.pointer_word.specs.Asked.{Asked}
use Rattle.pointer_word.specs.Legal.{legal}
use Rattle.pointer_word.proofs.Upd.{upd-same, upd-other, same_or}
use Rattle.world_semantics.specs.declared.event.Actor.{Actor}
use Rattle.world_semantics.specs.declared.event.Actor.TheVariants as actor
use Rattle.world_semantics.specs.declared.event.Choice.{Choice}
use Rattle.world_semantics.specs.Fetchers.{Fetching}
use Rattle.world_semantics.specs.Programs.{Eviction, Hold, Mode, Ready, Missing, Bringing, Reading, Filling, Evicting, Releasing, Retreating, Closing, Wanted, Program, Setting, begun, next_touch, hold_at, object_or_none}
use Rattle.world_semantics.specs.Turns.{Answer, Turn, NotEnabled, Alone, Calls, after_call, taken, evacuator_turn, fetcher_turn, program_turn}
use Rattle.world_semantics.specs.Worlds.{Sizes, World, Event, share, mover_of, setting, start, in_range, is_actor, with_program, with_evacuator, with_fetcher, acted, event, Follows}
use Rattle.world_semantics.specs.Steps.{IsSound}
use Rattle.world_semantics.specs.Holding.{count_of, HoldsFit}
use Rattle.world_semantics.specs.Enabled.{AsksTurn, has_turn, is_enabled, owner_of, OneAsked, TriesAsked}
use Rattle.world_semantics.specs.Scopes.{IsAiming, AimsIn, object_in, IsAsCode, IsShut, IsAimed, ScopeFits, IsFramed}
use Rattle.world_semantics.proofs.Able.{actor_able, event_able}
use Rattle.world_semantics.proofs.Asking.{ToldFit, HoldTold, IsPending, asked_able, asks_program, asks_evacuator, asks_fetcher, counts_one}
use Rattle.world_semantics.proofs.Following.{Laws, Within1, goes_within}
use Rattle.world_semantics.proofs.Going.{Goes, program_leads}
use Rattle.world_semantics.proofs.Holding.{InShare, Held, Kept, Opened, Closed, Written, Holds1, aims_there, mode_h, holds_on}
use Rattle.world_semantics.proofs.Moving.{below}
use Rattle.world_semantics.proofs.Notes.{note_stays, noted_own}
use Rattle.world_semantics.proofs.Reached.{begin, leads_taken}
use Rattle.world_semantics.proofs.Scopes.{scopes_lead}
use Rattle.world_semantics.proofs.Stepping.{enabled, happened, starts}
use Rattle.world_semantics.proofs.Told.{told_leads}

-- a program in a state of the machine
pub record Fit1 (g : Setting) (s : State) (p : Program) : Type 0 where
  pub within : Within1 g p
  pub holds : Holds1 g s p
  pub four : length p.holds ≡ 4
  pub scopes : (k : ℕ) → ScopeFits g p p.mode k
  pub told : ToldFit s p p.mode

-- ---- owners

test_below : (a b : ℕ) → a < b → nat_lt a b ≡ true
test_below a b l = grind (arith, nat_tests)

in_share : (S k o : ℕ) → k * S ≤ o → o < k * S + S → o / S ≡ k
in_share S k o low high =
    let e : o ≡ k * S + (o - k * S) = omega arith in
    ap (λ n. n / S) e ∙ div-mul-add k S (o - k * S) (omega arith)

-- the owner of an object of a share
owned : (z : Sizes) (images : ℕ → Image) (k o : ℕ) → InShare (setting z images k) o → owner_of z o ≡ cond (nat_lt k z.programs) (suc k) 0
owned z images k o there = ap (λ n. cond (nat_lt n z.programs) (suc n) 0) (in_share (share z) k o there.0 there.1)

owned_by : (z : Sizes) (images : ℕ → Image) (k o : ℕ) → k < z.programs → InShare (setting z images k) o → owner_of z o ≡ suc k
owned_by z images k o l there = owned z images k o there ∙ ap (λ (b : Bool). cond b (suc k) 0) (test_below k z.programs l)

-- no other actor owns an object of program j's share
other_mover : (z : Sizes) (who : Actor) (j : ℕ) (b : Bool) → nat_lt j z.programs ≡ b → who ≢ actor.Program j → cond b (suc j) 0 ≢ mover_of z who
other_mover z (actor.Program k) j true l d e = d (ap actor.Program (omega arith))
other_mover z (actor.Evacuator k) j true l d e = let b : j < z.programs = below j z.programs l in absurd (omega arith)
other_mover z (actor.Fetcher k) j true l d e = let b : j < z.programs = below j z.programs l in absurd (omega arith)
other_mover z (actor.Program k) j false l d e = absurd (omega arith)
other_mover z (actor.Evacuator k) j false l d e = absurd (omega arith)
other_mover z (actor.Fetcher k) j false l d e = absurd (omega arith)

-- ---- a turn's call

called_asked : {A : Type 0} (owner : ℕ → ℕ) (h : Type 0) (n : ℕ) (s : State) (m : ℕ) (c : Call) (go : State → A) (r : State × A) (b : Bool)
    → after_call (cond b (Some (act s c)) None) go ≡ Some r → Asked owner h n s m c → (r.0 ≡ s) ⊎ ((c : Call) × Asked owner h n s m c × (r.0 ≡ act s c))
called_asked owner h n s m c go r false e ok = cc
called_asked owner h n s m c go r true e ok =
    let q : (act s c, go (act s c)) ≡ r = (let k : Some (act s c, go (act s c)) ≡ Some r = e in cc) in
    inr (c, ok, ap (λ z. z.0) (sym q))

taken_asked : {A : Type 0} (owner : ℕ → ℕ) (h : Type 0) (n : ℕ) (s : State) (m : ℕ) (x : Turn A) (r : State × A) → taken n s x ≡ Some r → AsksTurn owner h n s m x
    → (r.0 ≡ s) ⊎ ((c : Call) × Asked owner h n s m c × (r.0 ≡ act s c))
taken_asked owner h n s m NotEnabled r e ok = cc
taken_asked owner h n s m (Alone a) r e ok = let q : (s, a) ≡ r = (let k : Some (s, a) ≡ Some r = e in cc) in inl (ap (λ z. z.0) (sym q))
taken_asked owner h n s m (Calls c go) r e ok = called_asked owner h n s m c go r (legal n s c) e ok

-- what is known of the objects of other shares stays
note_apart : (owner : ℕ → ℕ) (h : Type 0) (n : ℕ) (s t : State) (m o : ℕ) → (t ≡ s) ⊎ ((c : Call) × Asked owner h n s m c × (t ≡ act s c)) → owner o ≢ m → t.note o ≡ s.note o
note_apart owner h n s t m o (inl e) d = ap (λ (y : State). y.note o) e
note_apart owner h n s t m o (inr x) d = ap (λ (y : State). y.note o) x.2 ∙ note_stays s x.0 o (λ e. d (noted_own owner h n s m x.0 o x.1 e))

fit_apart : (g : Setting) (s t : State) (p : Program) → ((o : ℕ) → InShare g o → t.note o ≡ s.note o) → Fit1 g s p → Fit1 g t p
fit_apart g s t p same is = record {
  within = is.within;
  holds = record { own = is.holds.own; counted = λ o b. ap (λ (y : Note). y.count) (same o b) ∙ is.holds.counted o b };
  four = is.four;
  scopes = is.scopes;
  told = λ k x e. elim (is.told k x e) [
    | inl k ↦ inl (subst (λ (y : Note). (known y.frame ≡ true) × (x.writes ≡ true → y.writing ≡ true)) (sym (same x.object (is.holds.own _ x e))) k)
    | inr pending ↦ inr pending
  ];
}

four_stay : (g : Setting) (s : State) (p : Program) (t : State) (q : Program) → Held g s p t q → length p.holds ≡ 4 → length q.holds ≡ 4
four_stay g s p t q (Kept e stay) four = ap length e ∙ four
four_stay g s p t q (Opened k x l none own e more) four = ap length e ∙ (length-set p.holds k (Some x) ∙ four)
four_stay g s p t q (Closed k x there e less) four = ap length e ∙ (length-set p.holds k None ∙ four)
four_stay g s p t q (Written k x there e stay) four = ap length e ∙ (length-set p.holds k _ ∙ four)

-- ---- events

abbrev pub AllFit : Sizes → (ℕ → Image) → World → Type 0
AllFit z images w = (k : ℕ) → Fit1 (setting z images k) w.lock (w.programs k)

module _ (laws : Laws) (h : Type 0) (z : Sizes) (images : ℕ → Image) (some : 0 < z.cells) where
  -- the program's call meets what is asked of it
  program_asks : (w : World) (k : ℕ) (c : Choice) (a : Answer) → k < z.programs → IsSound h z w → AllFit z images w
      → AsksTurn (owner_of z) h z.cells w.lock (suc k) (program_turn (setting z images k) w.lock (w.programs k) c a)
  program_asks w k c a l sound all =
      let g = setting z images k in
      let is = all k in
      asks_program (owner_of z) h g w.lock (w.programs k) a some (λ o b. owned_by z images k o l b) is.holds is.four (aims_there laws g some (w.programs k) is.within) (w.programs k).mode c
      (sound.hands.program k l) is.within.aims is.told

  -- the program behind its own turn
  own_fit : (w : World) (k : ℕ) (c : Choice) (a : Answer) (r : State × Program) → k < z.programs → taken z.cells w.lock (program_turn (setting z images k) w.lock (w.programs k) c a) ≡ Some r
      → IsSound h z w → AllFit z images w → Fit1 (setting z images k) r.0 r.1
  own_fit w k c a r l e sound all =
      let g = setting z images k in
      let s : State = w.lock in
      let p : Program = w.programs k in
      let is = all k in
      let goes : Goes g s p r.0 r.1 = leads_taken z.cells s (Goes g s p) (program_turn g s p c a) r e (program_leads g s p c a is.within.aims) in
      let held : Held g s p r.0 r.1 = leads_taken z.cells s (Held g s p) (program_turn g s p c a) r e (mode_h g s p a (aims_there laws g some p is.within) p.mode c) in
      let holds : Holds1 g r.0 r.1 = holds_on g s p r.0 r.1 is.holds held in
      record {
        within = goes_within laws g some s p r.0 r.1 is.within goes;
        holds = holds;
        four = four_stay g s p r.0 r.1 held is.four;
        scopes = leads_taken z.cells s (λ (t : State) (q : Program). (k : ℕ) → ScopeFits g q q.mode k) (program_turn g s p c a) r e (scopes_lead laws g some s p c a is.within is.scopes);
        told = λ j x f.
            let count : (r.0.note x.object).count ≡ count_of x.object r.1.holds = holds.counted x.object (holds.own j x f) in
            let there : 0 < count_of x.object r.1.holds = counts_one r.1.holds j x f in
            leads_taken z.cells s (λ (t : State) (q : Program). (j : ℕ) (x : Hold) → hold_at q.holds j ≡ Some x → 0 < (t.note x.object).count → HoldTold t x ⊎ IsPending q.mode x) (program_turn g s p c a) r e
            (told_leads h g s p c a sound.lock is.told) j x f (omega arith);
      }

  -- each program behind a turn of an actor's
  others_fit : (w : World) (who : Actor) (t : State) (j : ℕ) → who ≢ actor.Program j → (t ≡ w.lock) ⊎ ((c : Call) × Asked (owner_of z) h z.cells w.lock (mover_of z who) c × (t ≡ act w.lock c))
      → AllFit z images w → Fit1 (setting z images j) t (w.programs j)
  others_fit w who t j d one all =
      fit_apart (setting z images j) w.lock t (w.programs j)
      (λ o b. note_apart (owner_of z) h z.cells w.lock t (mover_of z who) o one
      (λ e. other_mover z who j (nat_lt j z.programs) refl d (sym (owned z images j o b) ∙ e)))
      (all j)

  by_program : (w u : World) (k : ℕ) (c : Choice) (a : Answer) (x : Option (State × Program)) → k < z.programs
      → taken z.cells w.lock (program_turn (setting z images k) w.lock (w.programs k) c a) ≡ x → with_program w k x ≡ Some u → IsSound h z w → AllFit z images w
      → OneAsked h z w (actor.Program k) u × AllFit z images u
  by_program w u k c a None l e q sound all = cc
  by_program w u k c a (Some r) l e q sound all =
      let v : World = record w { lock = r.0; programs = upd w.programs k r.1 } in
      let same : v ≡ u = (let s : Some v ≡ Some u = q in cc) in
      let one = taken_asked (owner_of z) h z.cells w.lock (suc k) (program_turn (setting z images k) w.lock (w.programs k) c a) r e (program_asks w k c a l sound all) in
      subst (λ (u : World). OneAsked h z w (actor.Program k) u × AllFit z images u) same (
        one,
        (λ j. elim (same_or j k) [
          | inl i ↦ subst (λ (i : ℕ). Fit1 (setting z images i) r.0 (upd w.programs k r.1 i)) (sym i)
              (subst (Fit1 (setting z images k) r.0) (sym (upd-same w.programs k r.1 k refl)) (own_fit w k c a r l e sound all))
          | inr d ↦ subst (Fit1 (setting z images j) r.0) (sym (upd-other w.programs k r.1 j d)) (others_fit w (actor.Program k) r.0 j (λ e. d cc) one all)
        ]),
      )

  by_evacuator : (w u : World) (k : ℕ) (c : Choice) (a : Answer) (x : Option (State × Option Eviction)) → k < z.evacuators
      → taken z.cells w.lock (evacuator_turn z.cells (suc (z.programs + k)) (w.evacuators k) c a) ≡ x → with_evacuator w k x ≡ Some u → IsSound h z w → AllFit z images w
      → OneAsked h z w (actor.Evacuator k) u × AllFit z images u
  by_evacuator w u k c a None l e q sound all = cc
  by_evacuator w u k c a (Some r) l e q sound all =
      let m : ℕ = suc (z.programs + k) in
      let v : World = record w { lock = r.0; evacuators = upd w.evacuators k r.1 } in
      let same : v ≡ u = (let s : Some v ≡ Some u = q in cc) in
      let one = taken_asked (owner_of z) h z.cells w.lock m (evacuator_turn z.cells m (w.evacuators k) c a) r e (asks_evacuator (owner_of z) h z.cells w.lock m (w.evacuators k) c a (sound.hands.evacuator k l)) in
      subst (λ (u : World). OneAsked h z w (actor.Evacuator k) u × AllFit z images u) same (one, (λ j. others_fit w (actor.Evacuator k) r.0 j (λ e. cc) one all))

  by_fetcher : (w u : World) (k : ℕ) (c : Choice) (a : Answer) (x : Option (State × Option Fetching)) → k < z.fetchers
      → taken z.cells w.lock (fetcher_turn z.cells (suc (z.programs + z.evacuators + k)) (w.fetchers k) c a) ≡ x → with_fetcher w k x ≡ Some u → IsSound h z w → AllFit z images w
      → OneAsked h z w (actor.Fetcher k) u × AllFit z images u
  by_fetcher w u k c a None l e q sound all = cc
  by_fetcher w u k c a (Some r) l e q sound all =
      let m : ℕ = suc (z.programs + z.evacuators + k) in
      let v : World = record w { lock = r.0; fetchers = upd w.fetchers k r.1 } in
      let same : v ≡ u = (let s : Some v ≡ Some u = q in cc) in
      let one = taken_asked (owner_of z) h z.cells w.lock m (fetcher_turn z.cells m (w.fetchers k) c a) r e (asks_fetcher (owner_of z) h z.cells w.lock m (w.fetchers k) c a (sound.hands.fetcher k l)) in
      subst (λ (u : World). OneAsked h z w (actor.Fetcher k) u × AllFit z images u) same (one, (λ j. others_fit w (actor.Fetcher k) r.0 j (λ e. cc) one all))

  by_actor : (w u : World) (who : Actor) (c : Choice) (a : Answer) → is_actor z who ≡ true → acted z images w who c a ≡ Some u → IsSound h z w → AllFit z images w → OneAsked h z w who u × AllFit z images u
  by_actor w u (actor.Program k) c a there e sound all = by_program w u k c a _ (below k z.programs there) refl e sound all
  by_actor w u (actor.Evacuator k) c a there e sound all = by_evacuator w u k c a _ (below k z.evacuators there) refl e sound all
  by_actor w u (actor.Fetcher k) c a there e sound all = by_fetcher w u k c a _ (below k z.fetchers there) refl e sound all

  both : (a b : Bool) → (a && b) ≡ true → (a ≡ true) × (b ≡ true)
  both true b e = (refl, e)
  both false b e = cc

  -- an event's call meets what is asked of its caller, and leaves each program so
  pub fits_on : (w u : World) (e : Event) → event z images w e ≡ Some u → IsSound h z w → AllFit z images w → OneAsked h z w e.actor u × AllFit z images u
  fits_on w u e b sound all =
      let on = enabled (is_actor z e.actor && in_range z e.choice) (acted z images w e.actor e.choice e.answer) u b in
      by_actor w u e.actor e.choice e.answer (both (is_actor z e.actor) _ on.0).0 on.1 sound all

  pub fitting : (w v : World) (es : List Event) → Follows h z images w es v → IsSound h z w → AllFit z images w → IsSound h z v × AllFit z images v
  fitting w v [] f sound all = subst (λ (x : World). IsSound h z x × AllFit z images x) (sym f) (sound, all)
  fitting w v (e ∷ es) f sound all = fitting f.0 v es f.3 (happened h z images w f.0 e f.1 f.2 sound).sound (fits_on w f.0 e f.1 sound all).1

  -- ---- when an event is enabled

  actor_open : (w : World) (who : Actor) (c : Choice) (a : Answer) → is_actor z who ≡ true → IsSound h z w → AllFit z images w → actor_able z images w who c a ≡ has_turn z images w who c a
  actor_open w (actor.Program k) c a there sound all = asked_able (owner_of z) h z.cells w.lock (suc k) (program_turn (setting z images k) w.lock (w.programs k) c a) (program_asks w k c a (below k z.programs there) sound all)
  actor_open w (actor.Evacuator k) c a there sound all =
      let m : ℕ = suc (z.programs + k) in
      asked_able (owner_of z) h z.cells w.lock m (evacuator_turn z.cells m (w.evacuators k) c a)
      (asks_evacuator (owner_of z) h z.cells w.lock m (w.evacuators k) c a (sound.hands.evacuator k (below k z.evacuators there)))
  actor_open w (actor.Fetcher k) c a there sound all =
      let m : ℕ = suc (z.programs + z.evacuators + k) in
      asked_able (owner_of z) h z.cells w.lock m (fetcher_turn z.cells m (w.fetchers k) c a)
      (asks_fetcher (owner_of z) h z.cells w.lock m (w.fetchers k) c a (sound.hands.fetcher k (below k z.fetchers there)))

  not_there : (x y b r : Bool) → x ≡ false → ((x && y) && b) ≡ ((x && y) && r)
  not_there true y b r e = cc
  not_there false y b r e = refl

  open_so : (w : World) (who : Actor) (c : Choice) (a : Answer) (there : Bool) → is_actor z who ≡ there → IsSound h z w → AllFit z images w
      → ((is_actor z who && in_range z c) && actor_able z images w who c a) ≡ ((is_actor z who && in_range z c) && has_turn z images w who c a)
  open_so w who c a true e sound all = ap (λ (q : Bool). (is_actor z who && in_range z c) && q) (actor_open w who c a e sound all)
  open_so w who c a false e sound all = not_there (is_actor z who) (in_range z c) _ _ e

  pub event_open : (w : World) (e : Event) → IsSound h z w → AllFit z images w → is_some (event z images w e) ≡ is_enabled z images w e
  event_open w e sound all = event_able z images w e ∙ open_so w e.actor e.choice e.answer (is_actor z e.actor) refl sound all

-- ---- the beginning

none_held : (j : ℕ) (x : Hold) → hold_at (None ∷ None ∷ None ∷ None ∷ []) j ≡ Some x → ⊥
none_held zero x e = cc
none_held (suc zero) x e = cc
none_held (suc (suc zero)) x e = cc
none_held (suc (suc (suc zero))) x e = cc
none_held (suc (suc (suc (suc j)))) x e = cc

none_shut : (n k : ℕ) → held_by [] (slice_get (replicate n Shut) k) ≡ None
none_shut zero k = refl
none_shut (suc n) zero = refl
none_shut (suc n) (suc k) = none_shut n k

-- no scope of a code's run holds anything at the beginning
none_aimed : (main : Option Function) (k : ℕ) → held (begins main) k ≡ None
none_aimed None k = refl
none_aimed (Some g) k = at_block (slice_get g.blocks 0)
  where
    at_block : (b : Option Block) → held (elim b [ None ↦ Stuck [] [] | Some x ↦ entered g [] None x [] [] [] ]) k ≡ None
    at_block None = refl
    at_block (Some x) = none_shut g.scopes k

none_open : (k : ℕ) → hold_at (None ∷ None ∷ None ∷ None ∷ []) k ≡ None
none_open zero = refl
none_open (suc zero) = refl
none_open (suc (suc zero)) = refl
none_open (suc (suc (suc zero))) = refl
none_open (suc (suc (suc (suc k)))) = refl

pub begin_fit : (z : Sizes) (images : ℕ → Image) → AllFit z images (start images)
begin_fit z images k =
    let g = setting z images k in
    let p : Program = begun (images k) in
    record {
      within = (begin z images k).within;
      holds = record { own = λ s x e. absurd (none_held s x e); counted = λ o b. refl };
      four = refl;
      scopes = λ s. inl (ap object_in (none_open s) ∙ sym (ap (λ (y : Option (ℕ × ℕ)). object_or_none g p (cell_option y)) (none_aimed (slice_get (images k).functions 0) s)));
      told = λ s x e. absurd (none_held s x e);
    }

-- ---- what stands where a program has stopped, or is ready

known_is : (x : Option ℕ) → known x ≡ true → (i : ℕ) × (x ≡ Some i)
known_is None e = cc
known_is (Some i) e = (i, refl)

none_in : (x : Option Hold) → object_in x ≡ None → x ≡ None
none_in None e = refl
none_in (Some x) e = cc

module _ (g : Setting) (p : Program) where
  nothing_next : (c : Core) (x : Stop) → p.core ≡ c → stop_of c ≡ Some x → next_touch g p ≡ touch.Nothing
  nothing_next (Running f st al o) x e is = cc
  nothing_next (Stopped y al o) x e is = ap (λ (d : Core). touch_of (effect g.image d)) e
  nothing_next (Stuck al o) x e is = cc

  nothing_held : (c : Core) (x : Stop) → p.core ≡ c → stop_of c ≡ Some x → (s : ℕ) → held p.core s ≡ None
  nothing_held (Running f st al o) x e is s = cc
  nothing_held (Stopped y al o) x e is s = ap (λ (d : Core). held d s) e
  nothing_held (Stuck al o) x e is s = cc

  module _ (c : Core) (x : Stop) (e : p.core ≡ c) (is : stop_of c ≡ Some x) where
    as_none : (s : ℕ) → IsAsCode g p s → hold_at p.holds s ≡ None
    as_none s as_code = none_in (hold_at p.holds s) (as_code ∙ ap (λ (y : Option (ℕ × ℕ)). object_or_none g p (cell_option y)) (nothing_held c x e is s))

    none_aiming : (o : ℕ) → IsAiming g p o → ⊥
    none_aiming o aiming = let k : touch.Nothing ≡ touch.Aims aiming.scope (Some aiming.cell) = sym (nothing_next c x e is) ∙ aiming.is.0 in cc

    ready_none : (s : ℕ) → IsAsCode g p s ⊎ IsShut g p s → hold_at p.holds s ≡ None
    ready_none s (inl as_code) = as_none s as_code
    ready_none s (inr shut) = shut.0

    aimed_none : (o s : ℕ) → IsAsCode g p s ⊎ IsAimed g p o s → hold_at p.holds s ≡ None
    aimed_none o s (inl as_code) = as_none s as_code
    aimed_none o s (inr aimed) = absurd (none_aiming o aimed.0)

    pub stopped_holds : (y : Mode) (s : ℕ) → ScopeFits g p y s → hold_at p.holds s ≡ None
    stopped_holds Ready s fits = ready_none s fits
    stopped_holds (Missing o) s fits = aimed_none o s fits
    stopped_holds (Bringing o) s fits = aimed_none o s fits
    stopped_holds (Reading o f) s fits = aimed_none o s fits
    stopped_holds (Filling o f words k) s fits = aimed_none o s fits
    stopped_holds (Evicting o d) s fits = aimed_none o s fits
    stopped_holds (Releasing o f) s fits = aimed_none o s fits
    stopped_holds (Retreating o) s fits = aimed_none o s fits
    stopped_holds Closing s fits = elim fits [ inl as_code ↦ as_none s as_code | inr w ↦ elim w [ inl none ↦ none | inr aimed ↦ absurd (none_aiming aimed.0 aimed.1.0) ] ]
    stopped_holds (Wanted OutOfMemory) s fits = ready_none s fits
    stopped_holds (Wanted NoObjects) s fits = ready_none s fits
    stopped_holds (Wanted StoreFailed) s fits = fits

-- ---- every list of events

module _ (laws : Laws) (h : Type 0) (z : Sizes) (images : ℕ → Image) (events : List Event) (v : World) (some : 0 < z.cells) (f : Follows h z images (start images) events v) where
  pub reached_fit : IsSound h z v × AllFit z images v
  reached_fit = fitting laws h z images some (start images) v events f (starts h z images) (begin_fit z images)

  -- the words count what the scopes hold
  pub reached_holds : (k : ℕ) → HoldsFit z v k
  reached_holds k =
      let holds = (reached_fit.1 k).holds in
      record { own = holds.own; counted = λ o b. (reached_fit.0.lock.owner o).counts ∙ holds.counted o b }

  pub reached_open : (e : Event) → is_some (event z images v e) ≡ is_enabled z images v e
  reached_open e = event_open laws h z images some v e reached_fit.0 reached_fit.1

  pub reached_asked : (e : Event) (u : World) → event z images v e ≡ Some u → OneAsked h z v e.actor u
  reached_asked e u is = (fits_on laws h z images some v u e is reached_fit.0 reached_fit.1).0

  -- so does each that is tried
  pub reached_tries : (who : Actor) (c : Choice) (a : Answer) → is_actor z who ≡ true → TriesAsked h z images v who c a
  reached_tries (actor.Program k) c a there = program_asks laws h z images some v k c a (below k z.programs there) reached_fit.0 reached_fit.1
  reached_tries (actor.Evacuator k) c a there =
      asks_evacuator (owner_of z) h z.cells v.lock (suc (z.programs + k)) (v.evacuators k) c a (reached_fit.0.hands.evacuator k (below k z.evacuators there))
  reached_tries (actor.Fetcher k) c a there =
      asks_fetcher (owner_of z) h z.cells v.lock (suc (z.programs + z.evacuators + k)) (v.fetchers k) c a (reached_fit.0.hands.fetcher k (below k z.fetchers there))

  -- each scope holds what that of the code's run does
  pub reached_scopes : (k s : ℕ) → ScopeFits (setting z images k) (v.programs k) (v.programs k).mode s
  reached_scopes k s = (reached_fit.1 k).scopes s

  -- an aim is under way where the mode says so
  pub reached_aims : (k : ℕ) → AimsIn (setting z images k) (v.programs k) (v.programs k).mode
  reached_aims k = (reached_fit.1 k).within.aims

  -- a program that has stopped holds nothing
  pub reached_stopped : (k : ℕ) (x : Stop) → stop_of (v.programs k).core ≡ Some x → (s : ℕ) → hold_at (v.programs k).holds s ≡ None
  reached_stopped k x e s = stopped_holds (setting z images k) (v.programs k) (v.programs k).core x refl e (v.programs k).mode s (reached_scopes k s)

  -- what a program holds while no instruction of it is under way is in the frame that it was told
  pub reached_framed : (k s : ℕ) (x : Hold) → (v.programs k).mode ≡ Ready → hold_at (v.programs k).holds s ≡ Some x → IsFramed v.lock x
  reached_framed k s x m e = elim ((reached_fit.1 k).told s x e) [
    | inl told ↦ (let f = known_is (v.lock.note x.object).frame told.0 in (f.0, f.1, ((reached_fit.0.lock.owner x.object).placed f.0 f.1).0))
    | inr pending ↦ absurd (subst (λ y. IsPending y x) m pending)
  ]
