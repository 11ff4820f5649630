-- what an actor's turn may be made by, and that it doesn't depend on what is answered
use Rattle.std.proofs.Common.{◌≡◌, ℕ, ◌≤◌, Bool, true, false, cond, ◌&&◌, List, length, Option, Some, None, refl, sym, ap, ◌∙◌, arith, eq-eqb}
use Rattle.std.specs.Prelude.{◌+◌, nat_lt, nat_le, is_some}
use Rattle.code_form.specs.declared.touch.Touch.{Touch}
use Rattle.code_form.specs.declared.touch.Touch.TheVariants as touch
use Rattle.code_form.specs.Code.{is_blocked}
use Rattle.code_form.specs.Form.{Image}
use Rattle.code_form.specs.Placed.{pieces}
use Rattle.pointer_word.specs.Machine.{State}
use Rattle.pointer_word.specs.Calls.{Call, act}
use Rattle.pointer_word.specs.Legal.{holds, is_put, legal}
use Rattle.world_semantics.specs.declared.event.Actor.{Actor}
use Rattle.world_semantics.specs.declared.event.Actor.TheVariants as actor
use Rattle.world_semantics.specs.declared.event.Choice.{Choice}
use Rattle.world_semantics.specs.declared.event.Choice.TheVariants as choice
use Rattle.world_semantics.specs.Fetchers as fetching
use Rattle.world_semantics.specs.Fetchers.{Fetching}
use Rattle.world_semantics.specs.Programs.{Eviction, Copying, Stored, NotStored, Refused, Freed, Hold, Mode, Ready, Missing, Bringing, Reading, Filling, Evicting, Releasing, Retreating, Closing, Wanted, Program, Setting, next_touch, next_free, first_hold}
use Rattle.world_semantics.specs.Turns.{Answer, Turn, NotEnabled, Alone, Calls, after_call, taken, as_next, put_of, evicts, ends_by, ready, by_mode, program_turn, evacuator_turn, brings, fetches, fetcher_turn}
use Rattle.world_semantics.specs.Worlds.{Sizes, World, Event, mover_of, setting, in_range, is_actor, with_program, with_evacuator, with_fetcher, acted, event}
use Rattle.world_semantics.specs.InHand.{FitsEviction, FitsMode, FitsEvacuator, HandsFit}
use Rattle.world_semantics.proofs.Moving.{below, not_below}

-- the turn leads somewhere
abbrev pub able : {A : Type 0} → ℕ → State → Turn A → Bool
able n s NotEnabled = false
able n s (Alone a) = true
able n s (Calls c go) = legal n s c

called_able : {A : Type 0} (s : State) (c : Call) (go : State → A) (b : Bool) → is_some (after_call (cond b (Some (act s c)) None) go) ≡ b
called_able s c go true = refl
called_able s c go false = refl

pub taken_able : {A : Type 0} (n : ℕ) (s : State) (x : Turn A) → is_some (taken n s x) ≡ able n s x
taken_able n s NotEnabled = refl
taken_able n s (Alone a) = refl
taken_able n s (Calls c go) = called_able s c go (legal n s c)

same_next : {A : Type 0} (n : ℕ) (s : State) (c : Choice) (x y : Turn A) → able n s x ≡ able n s y → able n s (as_next c x) ≡ able n s (as_next c y)
same_next n s choice.Next x y e = e
same_next n s (choice.Look f) x y e = refl
same_next n s (choice.Claim f) x y e = refl
same_next n s (choice.Mark o f) x y e = refl
same_next n s (choice.Leave o f) x y e = refl
same_next n s (choice.Begin o) x y e = refl

same_cond : {A : Type 0} (n : ℕ) (s : State) (b : Bool) (v w x y : Turn A) → able n s v ≡ able n s w → (b ≡ false → able n s x ≡ able n s y) → able n s (cond b v x) ≡ able n s (cond b w y)
same_cond n s true v w x y e f = e
same_cond n s false v w x y e f = f refl

-- all words were copied: a put is one of a piece
put_words : (n : ℕ) (stored : Bool) (words : List ℕ) → length words ≡ n → is_put n (put_of stored words) ≡ true
put_words n true words e = eq-eqb (length words) n e
put_words n false words e = refl

module _ {A : Type 0} (n : ℕ) (s : State) (m : ℕ) (a b : Answer) (go : Eviction → A) (done failed : A) where
  evicts_same : (e : Eviction) → FitsEviction n s.far (s.hand m) e → able n s (evicts n m a e go done failed) ≡ able n s (evicts n m b e go done failed)
  evicts_same (Copying o f words) fits =
      same_cond n s (nat_lt (length words) n) _ _ _ _ refl
      (λ e. let k : n ≤ length words = not_below (length words) n e in let l : length words ≤ n = fits.2 in
      let all : length words ≡ n = omega arith in
      ap (λ (q : Bool). holds (s.hand m).leaving o && q) (put_words n a.stored words all ∙ sym (put_words n b.stored words all)))
  evicts_same (Stored o f) fits = refl
  evicts_same (NotStored o f) fits = refl
  evicts_same (Refused o f) fits = refl
  evicts_same (Freed f) fits = refl

module _ (h : Type 0) (g : Setting) (s : State) (p : Program) (a b : Answer) where
  ends_same : (q : Option (ℕ × Hold)) → able g.size s (ends_by g p a q) ≡ able g.size s (ends_by g p b q)
  ends_same None = refl
  ends_same (Some q) = refl

  ready_same : (x : Touch) → able g.size s (ready g s p a x) ≡ able g.size s (ready g s p b x)
  ready_same touch.Plain = refl
  ready_same (touch.Hints w) = refl
  ready_same (touch.Aims k w) = refl
  ready_same (touch.Loads k x) = refl
  ready_same (touch.Stores k x v) = refl
  ready_same (touch.Leaves k) = refl
  ready_same (touch.Allocs cells) = same_cond g.size s (nat_le (next_free g p + pieces g.size cells) g.limit) _ _ _ _ refl (λ _. refl)
  ready_same touch.Ends = ends_same (first_hold p.holds)
  ready_same touch.Wrong = refl
  ready_same touch.Nothing = refl

  mode_same : (y : Mode) (c : Choice) → FitsMode h g.size s.far (s.hand g.mover) y → able g.size s (by_mode g s p y c a) ≡ able g.size s (by_mode g s p y c b)
  mode_same Ready c fits = same_next g.size s c _ _ (same_cond g.size s (is_blocked p.core) NotEnabled NotEnabled _ _ refl (λ _. ready_same (next_touch g p)))
  mode_same (Missing o) c fits = refl
  mode_same (Bringing o) c fits = refl
  mode_same (Reading o f) c fits = same_next g.size s c _ _ refl
  mode_same (Filling o f words k) c fits = refl
  mode_same (Evicting o d) c fits = same_next g.size s c _ _ (evicts_same g.size s g.mover a b _ _ _ d fits.2)
  mode_same (Releasing o f) c fits = refl
  mode_same (Retreating o) c fits = refl
  mode_same Closing c fits = refl
  mode_same (Wanted w) c fits = refl

evacuator_same : (n : ℕ) (s : State) (m : ℕ) (d : Option Eviction) (c : Choice) (a b : Answer) → FitsEvacuator n s.far (s.hand m) d → able n s (evacuator_turn n m d c a) ≡ able n s (evacuator_turn n m d c b)
evacuator_same n s m None c a b fits = refl
evacuator_same n s m (Some e) c a b fits = same_next n s c _ _ (evicts_same n s m a b _ _ _ e fits.2)

-- a read that fails leads on too
brings_same : {A : Type 0} (n : ℕ) (s : State) (m : ℕ) (own : Bool) (a b : Answer) (go : Fetching → A) (done failed : A) (d : Fetching) → able n s (brings n m own a d go done failed) ≡ able n s (brings n m own b d go done failed)
brings_same n s m own a b go done failed (fetching.Bringing o) = refl
brings_same n s m own a b go done failed (fetching.Reading o f) = refl
brings_same n s m own a b go done failed (fetching.Filling o f words k) = refl
brings_same n s m own a b go done failed (fetching.Releasing o f) = refl
brings_same n s m own a b go done failed (fetching.Retreating o) = refl

fetches_same : (n : ℕ) (s : State) (m : ℕ) (d : Fetching) (c : Choice) (a b : Answer) → able n s (fetches n m d c a) ≡ able n s (fetches n m d c b)
fetches_same n s m d choice.Next a b = brings_same n s m false a b Some None None d
fetches_same n s m d (choice.Look f) a b = refl
fetches_same n s m d (choice.Claim f) a b = refl
fetches_same n s m d (choice.Mark o f) a b = refl
fetches_same n s m d (choice.Leave o f) a b = refl
fetches_same n s m d (choice.Begin o) a b = refl

fetcher_same : (n : ℕ) (s : State) (m : ℕ) (d : Option Fetching) (c : Choice) (a b : Answer) → able n s (fetcher_turn n m d c a) ≡ able n s (fetcher_turn n m d c b)
fetcher_same n s m None c a b = refl
fetcher_same n s m (Some d) c a b = fetches_same n s m d c a b

-- ---- events

with_program_able : (w : World) (k : ℕ) (r : Option (State × Program)) → is_some (with_program w k r) ≡ is_some r
with_program_able w k None = refl
with_program_able w k (Some r) = refl

with_evacuator_able : (w : World) (k : ℕ) (r : Option (State × Option Eviction)) → is_some (with_evacuator w k r) ≡ is_some r
with_evacuator_able w k None = refl
with_evacuator_able w k (Some r) = refl

with_fetcher_able : (w : World) (k : ℕ) (r : Option (State × Option Fetching)) → is_some (with_fetcher w k r) ≡ is_some r
with_fetcher_able w k None = refl
with_fetcher_able w k (Some r) = refl

-- the turn of the actor leads somewhere
abbrev pub actor_able : Sizes → (ℕ → Image) → World → Actor → Choice → Answer → Bool
actor_able z images w (actor.Program k) c a = able z.cells w.lock (program_turn (setting z images k) w.lock (w.programs k) c a)
actor_able z images w (actor.Evacuator k) c a = able z.cells w.lock (evacuator_turn z.cells (mover_of z (actor.Evacuator k)) (w.evacuators k) c a)
actor_able z images w (actor.Fetcher k) c a = able z.cells w.lock (fetcher_turn z.cells (mover_of z (actor.Fetcher k)) (w.fetchers k) c a)

acted_able : (z : Sizes) (images : ℕ → Image) (w : World) (who : Actor) (c : Choice) (a : Answer) → is_some (acted z images w who c a) ≡ actor_able z images w who c a
acted_able z images w (actor.Program k) c a = with_program_able w k _ ∙ taken_able z.cells w.lock (program_turn (setting z images k) w.lock (w.programs k) c a)
acted_able z images w (actor.Evacuator k) c a = with_evacuator_able w k _ ∙ taken_able z.cells w.lock (evacuator_turn z.cells (mover_of z (actor.Evacuator k)) (w.evacuators k) c a)
acted_able z images w (actor.Fetcher k) c a = with_fetcher_able w k _ ∙ taken_able z.cells w.lock (fetcher_turn z.cells (mover_of z (actor.Fetcher k)) (w.fetchers k) c a)

some_where : (b : Bool) (x : Option World) → is_some (cond b x None) ≡ (b && is_some x)
some_where true x = refl
some_where false x = refl

pub event_able : (z : Sizes) (images : ℕ → Image) (w : World) (e : Event) → is_some (event z images w e) ≡ ((is_actor z e.actor && in_range z e.choice) && actor_able z images w e.actor e.choice e.answer)
event_able z images w e =
    let b : Bool = is_actor z e.actor && in_range z e.choice in
    some_where b (acted z images w e.actor e.choice e.answer) ∙ ap (λ (q : Bool). b && q) (acted_able z images w e.actor e.choice e.answer)

actor_same : (h : Type 0) (z : Sizes) (images : ℕ → Image) (w : World) (who : Actor) (c : Choice) (a b : Answer) → is_actor z who ≡ true → HandsFit h z w
    → actor_able z images w who c a ≡ actor_able z images w who c b
actor_same h z images w (actor.Program k) c a b there fits = mode_same h (setting z images k) w.lock (w.programs k) a b (w.programs k).mode c (fits.program k (below k z.programs there))
actor_same h z images w (actor.Evacuator k) c a b there fits =
    evacuator_same z.cells w.lock (mover_of z (actor.Evacuator k)) (w.evacuators k) c a b (fits.evacuator k (below k z.evacuators there))
actor_same h z images w (actor.Fetcher k) c a b there fits = fetcher_same z.cells w.lock (mover_of z (actor.Fetcher k)) (w.fetchers k) c a b

not_there : (x y b r : Bool) → x ≡ false → ((x && y) && b) ≡ ((x && y) && r)
not_there true y b r e = cc
not_there false y b r e = refl

event_same : (h : Type 0) (z : Sizes) (images : ℕ → Image) (w : World) (who : Actor) (c : Choice) (a b : Answer) (there : Bool) → is_actor z who ≡ there → HandsFit h z w
    → ((is_actor z who && in_range z c) && actor_able z images w who c a) ≡ ((is_actor z who && in_range z c) && actor_able z images w who c b)
event_same h z images w who c a b true e fits = ap (λ (q : Bool). (is_actor z who && in_range z c) && q) (actor_same h z images w who c a b e fits)
event_same h z images w who c a b false e fits = not_there (is_actor z who) (in_range z c) _ _ e

-- an event is enabled for one answer exactly where it is for each
pub same_answers : (h : Type 0) (z : Sizes) (images : ℕ → Image) (w : World) (e : Event) (a : Answer) → HandsFit h z w → is_some (event z images w (record e { answer = a })) ≡ is_some (event z images w e)
same_answers h z images w e a fits =
    event_able z images w (record e { answer = a }) ∙ (event_same h z images w e.actor e.choice a e.answer (is_actor z e.actor) refl fits ∙ sym (event_able z images w e))
