-- each event keeps what stands
use Rattle.std.proofs.Common.{◌≡◌, ◌≢◌, inl, inr, ℕ, suc, ◌+◌, ◌<◌, Bool, true, false, cond, ◌&&◌, List, [], ◌∷◌, Option, Some, None, refl, sym, ap, ◌∙◌, subst, arith}
use Rattle.code_form.specs.Form.{Image}
use Rattle.pointer_word.specs.Hands.{upd}
use Rattle.pointer_word.specs.Machine.{State}
use Rattle.pointer_word.specs.Calls.{Call, May, act}
use Rattle.pointer_word.specs.Legal.{legal}
use Rattle.pointer_word.specs.Sound.{Inv}
use Rattle.pointer_word.proofs.Upd.{upd-same, upd-other, same_or}
use Rattle.pointer_word.proofs.Runs.{keeps_act, opens_well}
use Rattle.pointer_word.proofs.Lawful.{lawful}
use Rattle.world_semantics.specs.declared.event.Actor.{Actor}
use Rattle.world_semantics.specs.declared.event.Actor.TheVariants as actor
use Rattle.world_semantics.specs.declared.event.Choice.{Choice}
use Rattle.world_semantics.specs.Programs.{Eviction, Mode, Program}
use Rattle.world_semantics.specs.Turns.{Answer, Turn, NotEnabled, Alone, Calls, after_call, taken, evacuator_turn, fetcher_turn, program_turn}
use Rattle.world_semantics.specs.Worlds.{Sizes, World, Event, mover_of, setting, start, in_range, is_actor, with_program, with_evacuator, with_fetcher, acted, event, IsHonest, Follows}
use Rattle.world_semantics.specs.Fetchers.{Fetching}
use Rattle.world_semantics.specs.InHand.{FitsMode, FitsEvacuator, FitsFetcher}
use Rattle.world_semantics.specs.Steps.{maker, or_self, OneCall, OthersStay, OtherHandsStay, IsSound, IsStep}
use Rattle.world_semantics.proofs.Bringing.{fetcher_ok}
use Rattle.world_semantics.proofs.Calling.{other_hand, stores_stay, mode_stays, evacuator_stays, fetcher_stays}
use Rattle.world_semantics.proofs.Moving.{below, granted_may, TurnOk}
use Rattle.world_semantics.proofs.Programs.{program_ok, evacuator_ok}

-- what a turn leads to
record Took {A : Type 0} (h : Type 0) (n : ℕ) (s : State) (m : ℕ) (Q : State → A → Type 0) (r : State × A) : Type 0 where
  pub lock : Inv h n r.0
  pub fits : Q r.0 r.1
  pub call : OneCall h n m s r.0

called : {A : Type 0} (h : Type 0) (n : ℕ) (s : State) (m : ℕ) (Q : State → A → Type 0) (c : Call) (go : State → A) (r : State × A) (b : Bool) → legal n s c ≡ b
    → after_call (cond b (Some (act s c)) None) go ≡ Some r → TurnOk h n s m Q (Calls c go) → Inv h n s → Took h n s m Q r
called h n s m Q c go r false l e ok inv = cc
called h n s m Q c go r true l e ok inv =
    let may : May h n s c = granted_may h n s c l ok.0 in
    let q : (act s c, go (act s c)) ≡ r = (let k : Some (act s c, go (act s c)) ≡ Some r = e in cc) in
    subst (Took h n s m Q) q (record { lock = keeps_act h n s c may inv; fits = ok.2; call = inr (c, ok.1, may, lawful h n s c may inv, refl) })

took : {A : Type 0} (h : Type 0) (n : ℕ) (s : State) (m : ℕ) (Q : State → A → Type 0) (x : Turn A) (r : State × A) → taken n s x ≡ Some r → TurnOk h n s m Q x → Inv h n s → Took h n s m Q r
took h n s m Q NotEnabled r e ok inv = cc
took h n s m Q (Alone a) r e ok inv =
    let q : (s, a) ≡ r = (let k : Some (s, a) ≡ Some r = e in cc) in
    subst (Took h n s m Q) q (record { lock = inv; fits = ok; call = inl refl })
took h n s m Q (Calls c go) r e ok inv = called h n s m Q c go r (legal n s c) refl e ok inv

-- ---- other actors

not_made : (c : Call) (m j : ℕ) → or_self (maker c) m ≡ m → j ≢ m → maker c ≢ Some j
not_made c m j e d q = d (sym (ap (λ y. or_self y m) q) ∙ e)

hands_stay : (h : Type 0) (n m : ℕ) (s t : State) → OneCall h n m s t → OtherHandsStay s t m
hands_stay h n m s t (inl e) j d = ap (λ (y : State). y.hand j) e
hands_stay h n m s t (inr x) j d = ap (λ (y : State). y.hand j) x.4 ∙ other_hand j s x.0 (not_made x.0 m j x.1 d)

other_mode : (h : Type 0) (n m : ℕ) (s t : State) → OneCall h n m s t → Inv h n s → (j : ℕ) → j ≢ m → (mode : Mode) → FitsMode h n s.far (s.hand j) mode → FitsMode h n t.far (t.hand j) mode
other_mode h n m s t (inl e) inv j d mode fits = subst (λ (y : State). FitsMode h n y.far (y.hand j) mode) (sym e) fits
other_mode h n m s t (inr x) inv j d mode fits =
    let c : Call = x.0 in
    let not = not_made c m j x.1 d in
    let k : FitsMode h n (act s c).far (s.hand j) mode = mode_stays h n j s (act s c) (s.hand j) mode (stores_stay h n j s c x.2 inv not) refl fits in
    subst (λ (y : State). FitsMode h n y.far (y.hand j) mode) (sym x.4) (subst (λ y. FitsMode h n (act s c).far y mode) (sym (other_hand j s c not)) k)

other_evacuator : (h : Type 0) (n m : ℕ) (s t : State) → OneCall h n m s t → Inv h n s → (j : ℕ) → j ≢ m → (d : Option Eviction) → FitsEvacuator n s.far (s.hand j) d → FitsEvacuator n t.far (t.hand j) d
other_evacuator h n m s t (inl e) inv j d mode fits = subst (λ (y : State). FitsEvacuator n y.far (y.hand j) mode) (sym e) fits
other_evacuator h n m s t (inr x) inv j d mode fits =
    let c : Call = x.0 in
    let not = not_made c m j x.1 d in
    let k : FitsEvacuator n (act s c).far (s.hand j) mode = evacuator_stays n j s (act s c) (s.hand j) mode (stores_stay h n j s c x.2 inv not) refl fits in
    subst (λ (y : State). FitsEvacuator n y.far (y.hand j) mode) (sym x.4) (subst (λ y. FitsEvacuator n (act s c).far y mode) (sym (other_hand j s c not)) k)

other_fetcher : (h : Type 0) (n m : ℕ) (s t : State) → OneCall h n m s t → Inv h n s → (j : ℕ) → j ≢ m → (d : Option Fetching) → FitsFetcher h n s.far (s.hand j) d → FitsFetcher h n t.far (t.hand j) d
other_fetcher h n m s t (inl e) inv j d mode fits = subst (λ (y : State). FitsFetcher h n y.far (y.hand j) mode) (sym e) fits
other_fetcher h n m s t (inr x) inv j d mode fits =
    let c : Call = x.0 in
    let not = not_made c m j x.1 d in
    let k : FitsFetcher h n (act s c).far (s.hand j) mode = fetcher_stays h n j s (act s c) (s.hand j) mode (stores_stay h n j s c x.2 inv not) refl fits in
    subst (λ (y : State). FitsFetcher h n y.far (y.hand j) mode) (sym x.4) (subst (λ y. FitsFetcher h n (act s c).far y mode) (sym (other_hand j s c not)) k)

-- ---- an event

-- what an event leads to
pub record Happened (h : Type 0) (z : Sizes) (w : World) (a : Actor) (u : World) : Type 0 where
  pub sound : IsSound h z u
  pub call : OneCall h z.cells (mover_of z a) w.lock u.lock
  pub others : OthersStay w u a

by_program : (h : Type 0) (z : Sizes) (images : ℕ → Image) (w u : World) (k : ℕ) (c : Choice) (a : Answer) (x : Option (State × Program)) → k < z.programs
    → taken z.cells w.lock (program_turn (setting z images k) w.lock (w.programs k) c a) ≡ x → with_program w k x ≡ Some u
    → (h → IsHonest z w (actor.Program k) a) → IsSound h z w → Happened h z w (actor.Program k) u
by_program h z images w u k c a None l e q honest is = cc
by_program h z images w u k c a (Some r) l e q honest is =
    let n : ℕ = z.cells in
    let m : ℕ = suc k in
    let ok = program_ok h (setting z images k) w.lock (w.programs k) a is.lock (w.programs k).mode refl (is.hands.program k l) c honest in
    let did : Took h n w.lock m (λ (t : State) (p : Program). FitsMode h n t.far (t.hand m) p.mode) r = took h n w.lock m _ (program_turn (setting z images k) w.lock (w.programs k) c a) r e ok is.lock in
    let v : World = record w { lock = r.0; programs = upd w.programs k r.1 } in
    let same : v ≡ u = (let s : Some v ≡ Some u = q in cc) in
    subst (Happened h z w (actor.Program k)) same (record {
      sound = record {
        lock = did.lock;
        hands = record {
          program = λ j b. elim (same_or j k) [
            | inl i ↦ subst (λ (i : ℕ). FitsMode h n r.0.far (r.0.hand (suc i)) (upd w.programs k r.1 i).mode) (sym i)
                (subst (λ (p : Program). FitsMode h n r.0.far (r.0.hand m) p.mode) (sym (upd-same w.programs k r.1 k refl)) did.fits)
            | inr d ↦ subst (λ (p : Program). FitsMode h n r.0.far (r.0.hand (suc j)) p.mode) (sym (upd-other w.programs k r.1 j d))
                (other_mode h n m w.lock r.0 did.call is.lock (suc j) (λ i. d (omega arith)) (w.programs j).mode (is.hands.program j b))
          ];
          evacuator = λ j b. other_evacuator h n m w.lock r.0 did.call is.lock (suc (z.programs + j)) (λ i. absurd (omega arith)) (w.evacuators j) (is.hands.evacuator j b);
          fetcher = λ j b. other_fetcher h n m w.lock r.0 did.call is.lock (suc (z.programs + z.evacuators + j)) (λ i. absurd (omega arith)) (w.fetchers j) (is.hands.fetcher j b);
        };
      };
      call = did.call;
      others = ((λ j d. upd-other w.programs k r.1 j d), refl, refl);
    })

by_evacuator : (h : Type 0) (z : Sizes) (w u : World) (k : ℕ) (c : Choice) (a : Answer) (x : Option (State × Option Eviction)) → k < z.evacuators
    → taken z.cells w.lock (evacuator_turn z.cells (suc (z.programs + k)) (w.evacuators k) c a) ≡ x → with_evacuator w k x ≡ Some u
    → IsSound h z w → Happened h z w (actor.Evacuator k) u
by_evacuator h z w u k c a None l e q is = cc
by_evacuator h z w u k c a (Some r) l e q is =
    let n : ℕ = z.cells in
    let m : ℕ = suc (z.programs + k) in
    let ok = evacuator_ok h n w.lock m (w.evacuators k) c a (is.hands.evacuator k l) in
    let did : Took h n w.lock m (λ (t : State) (d : Option Eviction). FitsEvacuator n t.far (t.hand m) d) r = took h n w.lock m _ (evacuator_turn n m (w.evacuators k) c a) r e ok is.lock in
    let v : World = record w { lock = r.0; evacuators = upd w.evacuators k r.1 } in
    let same : v ≡ u = (let s : Some v ≡ Some u = q in cc) in
    subst (Happened h z w (actor.Evacuator k)) same (record {
      sound = record {
        lock = did.lock;
        hands = record {
          program = λ j b. other_mode h n m w.lock r.0 did.call is.lock (suc j) (λ i. absurd (omega arith)) (w.programs j).mode (is.hands.program j b);
          evacuator = λ j b. elim (same_or j k) [
            | inl i ↦ subst (λ (i : ℕ). FitsEvacuator n r.0.far (r.0.hand (suc (z.programs + i))) (upd w.evacuators k r.1 i)) (sym i)
                (subst (λ (d : Option Eviction). FitsEvacuator n r.0.far (r.0.hand m) d) (sym (upd-same w.evacuators k r.1 k refl)) did.fits)
            | inr d ↦ subst (λ (x : Option Eviction). FitsEvacuator n r.0.far (r.0.hand (suc (z.programs + j))) x) (sym (upd-other w.evacuators k r.1 j d))
                (other_evacuator h n m w.lock r.0 did.call is.lock (suc (z.programs + j)) (λ i. d (omega arith)) (w.evacuators j) (is.hands.evacuator j b))
          ];
          fetcher = λ j b. other_fetcher h n m w.lock r.0 did.call is.lock (suc (z.programs + z.evacuators + j)) (λ i. absurd (omega arith)) (w.fetchers j) (is.hands.fetcher j b);
        };
      };
      call = did.call;
      others = ((λ j d. upd-other w.evacuators k r.1 j d), refl, refl);
    })

by_fetcher : (h : Type 0) (z : Sizes) (w u : World) (k : ℕ) (c : Choice) (a : Answer) (x : Option (State × Option Fetching)) → k < z.fetchers
    → taken z.cells w.lock (fetcher_turn z.cells (suc (z.programs + z.evacuators + k)) (w.fetchers k) c a) ≡ x → with_fetcher w k x ≡ Some u
    → (h → IsHonest z w (actor.Fetcher k) a) → IsSound h z w → Happened h z w (actor.Fetcher k) u
by_fetcher h z w u k c a None l e q honest is = cc
by_fetcher h z w u k c a (Some r) l e q honest is =
    let n : ℕ = z.cells in
    let m : ℕ = suc (z.programs + z.evacuators + k) in
    let ok = fetcher_ok h n w.lock m is.lock (w.fetchers k) c a (is.hands.fetcher k l) honest in
    let did : Took h n w.lock m (λ (t : State) (d : Option Fetching). FitsFetcher h n t.far (t.hand m) d) r = took h n w.lock m _ (fetcher_turn n m (w.fetchers k) c a) r e ok is.lock in
    let v : World = record w { lock = r.0; fetchers = upd w.fetchers k r.1 } in
    let same : v ≡ u = (let s : Some v ≡ Some u = q in cc) in
    subst (Happened h z w (actor.Fetcher k)) same (record {
      sound = record {
        lock = did.lock;
        hands = record {
          program = λ j b. other_mode h n m w.lock r.0 did.call is.lock (suc j) (λ i. absurd (omega arith)) (w.programs j).mode (is.hands.program j b);
          evacuator = λ j b. other_evacuator h n m w.lock r.0 did.call is.lock (suc (z.programs + j)) (λ i. absurd (omega arith)) (w.evacuators j) (is.hands.evacuator j b);
          fetcher = λ j b. elim (same_or j k) [
            | inl i ↦ subst (λ (i : ℕ). FitsFetcher h n r.0.far (r.0.hand (suc (z.programs + z.evacuators + i))) (upd w.fetchers k r.1 i)) (sym i)
                (subst (λ (d : Option Fetching). FitsFetcher h n r.0.far (r.0.hand m) d) (sym (upd-same w.fetchers k r.1 k refl)) did.fits)
            | inr d ↦ subst (λ (x : Option Fetching). FitsFetcher h n r.0.far (r.0.hand (suc (z.programs + z.evacuators + j))) x) (sym (upd-other w.fetchers k r.1 j d))
                (other_fetcher h n m w.lock r.0 did.call is.lock (suc (z.programs + z.evacuators + j)) (λ i. d (omega arith)) (w.fetchers j) (is.hands.fetcher j b))
          ];
        };
      };
      call = did.call;
      others = ((λ j d. upd-other w.fetchers k r.1 j d), refl, refl);
    })

both : (a b : Bool) → (a && b) ≡ true → (a ≡ true) × (b ≡ true)
both true b e = (refl, e)
both false b e = cc

pub enabled : (b : Bool) (x : Option World) (u : World) → cond b x None ≡ Some u → (b ≡ true) × (x ≡ Some u)
enabled true x u e = (refl, e)
enabled false x u e = cc

by_actor : (h : Type 0) (z : Sizes) (images : ℕ → Image) (w u : World) (who : Actor) (c : Choice) (a : Answer) → is_actor z who ≡ true → acted z images w who c a ≡ Some u
    → (h → IsHonest z w who a) → IsSound h z w → Happened h z w who u
by_actor h z images w u (actor.Program k) c a there e honest is = by_program h z images w u k c a _ (below k z.programs there) refl e honest is
by_actor h z images w u (actor.Evacuator k) c a there e honest is = by_evacuator h z w u k c a _ (below k z.evacuators there) refl e is
by_actor h z images w u (actor.Fetcher k) c a there e honest is = by_fetcher h z w u k c a _ (below k z.fetchers there) refl e honest is

pub happened : (h : Type 0) (z : Sizes) (images : ℕ → Image) (w u : World) (e : Event) → event z images w e ≡ Some u → (h → IsHonest z w e.actor e.answer) → IsSound h z w → Happened h z w e.actor u
happened h z images w u e is honest sound =
    let b = enabled (is_actor z e.actor && in_range z e.choice) (acted z images w e.actor e.choice e.answer) u is in
    by_actor h z images w u e.actor e.choice e.answer (both (is_actor z e.actor) _ b.0).0 b.1 honest sound

pub stepped : (h : Type 0) (z : Sizes) (images : ℕ → Image) (w u : World) (e : Event) → event z images w e ≡ Some u → (h → IsHonest z w e.actor e.answer) → IsSound h z w → IsStep h z w e u
stepped h z images w u e is honest sound =
    let did = happened h z images w u e is honest sound in
    record { call = did.call; others = did.others; hands = hands_stay h z.cells (mover_of z e.actor) w.lock u.lock did.call }

-- ---- any list of events

pub followed : (h : Type 0) (z : Sizes) (images : ℕ → Image) (w v : World) (es : List Event) → Follows h z images w es v → IsSound h z w → IsSound h z v
followed h z images w v [] f is = subst (IsSound h z) (sym f) is
followed h z images w v (e ∷ es) f is = followed h z images f.0 v es f.3 (happened h z images w f.0 e f.1 f.2 is).sound

pub starts : (h : Type 0) (z : Sizes) (images : ℕ → Image) → IsSound h z (start images)
starts h z images = record {
  lock = opens_well h z.cells;
  hands = record { program = λ k l. (refl, refl, (refl, refl)); evacuator = λ k l. (refl, refl, (refl, refl)); fetcher = λ k l. (refl, refl, (refl, refl)) };
}

pub reached : (h : Type 0) (z : Sizes) (images : ℕ → Image) (v : World) (es : List Event) → Follows h z images (start images) es v → IsSound h z v
reached h z images v es f = followed h z images (start images) v es f (starts h z images)
