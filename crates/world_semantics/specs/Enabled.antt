-- When an event is enabled, and what its call is asked.
use Rattle.std.specs.Prelude.{◌≡◌, ◌⊎◌, ℕ, suc, ◌/◌, ◌<◌, cond, ◌&&◌, nat_lt, Bool, true, false}
use Rattle.code_form.specs.declared.touch.Touch.{Touch}
use Rattle.code_form.specs.declared.touch.Touch.TheVariants as touch
use Rattle.code_form.specs.Form.{Image}
use Rattle.pointer_word.specs.Calls.{Call, act}
use Rattle.pointer_word.specs.Machine.{State}
use Rattle.pointer_word.specs.Asked.{Asked}
use Rattle.world_semantics.specs.declared.event.Actor.{Actor}
use Rattle.world_semantics.specs.declared.event.Actor.TheVariants as actor
use Rattle.world_semantics.specs.declared.event.Choice.{Choice}
use Rattle.world_semantics.specs.Turns.{Answer, Turn, NotEnabled, Alone, Calls, evacuator_turn, fetcher_turn, program_turn}
use Rattle.world_semantics.specs.Worlds.{Sizes, World, Event, share, mover_of, setting, in_range, is_actor}

-- there is something that an actor does, by a call or without one
abbrev pub is_turn : {A : Type 0} → Turn A → Bool
is_turn NotEnabled = false
is_turn (Alone a) = true
is_turn (Calls c go) = true

-- there is something that this actor does in its mode, where it chooses so
abbrev pub has_turn : Sizes → (ℕ → Image) → World → Actor → Choice → Answer → Bool
has_turn z images w (actor.Program k) c a = is_turn (program_turn (setting z images k) w.lock (w.programs k) c a)
has_turn z images w (actor.Evacuator k) c a = is_turn (evacuator_turn z.cells (mover_of z (actor.Evacuator k)) (w.evacuators k) c a)
has_turn z images w (actor.Fetcher k) c a = is_turn (fetcher_turn z.cells (mover_of z (actor.Fetcher k)) (w.fetchers k) c a)

-- there are such an actor, object and frame, and there is something that the actor does
abbrev pub is_enabled : Sizes → (ℕ → Image) → World → Event → Bool
is_enabled z images w e = (is_actor z e.actor && in_range z e.choice) && has_turn z images w e.actor e.choice e.answer

-- the owner of an object, by its number as a mover: the program in whose share it is; 0, which is no mover, where it is in none
abbrev pub owner_of : Sizes → ℕ → ℕ
owner_of z o = cond (nat_lt (o / share z) z.programs) (suc (o / share z)) 0

-- an actor leads the machine from one state to another by no call, or by one that meets what is asked of its caller
abbrev pub OneAsked : Type 0 → Sizes → World → Actor → World → Type 0
OneAsked h z w who u = (u.lock ≡ w.lock) ⊎ ((c : Call) × Asked (owner_of z) h z.cells w.lock (mover_of z who) c × (u.lock ≡ act w.lock c))

-- a turn makes no call, or tries one that meets what is asked of its caller
abbrev pub AsksTurn : {A : Type 0} → (ℕ → ℕ) → Type 0 → ℕ → State → ℕ → Turn A → Type 0
AsksTurn owner h n s m NotEnabled = Unit {0}
AsksTurn owner h n s m (Alone a) = Unit {0}
AsksTurn owner h n s m (Calls c go) = Asked owner h n s m c

-- what an actor does in its mode, where it chooses so, makes no call, or tries one that meets what is asked of its caller, whether that succeeds or not
abbrev pub TriesAsked : Type 0 → Sizes → (ℕ → Image) → World → Actor → Choice → Answer → Type 0
TriesAsked h z images w (actor.Program k) c a = AsksTurn (owner_of z) h z.cells w.lock (mover_of z (actor.Program k)) (program_turn (setting z images k) w.lock (w.programs k) c a)
TriesAsked h z images w (actor.Evacuator k) c a = AsksTurn (owner_of z) h z.cells w.lock (mover_of z (actor.Evacuator k)) (evacuator_turn z.cells (mover_of z (actor.Evacuator k)) (w.evacuators k) c a)
TriesAsked h z images w (actor.Fetcher k) c a = AsksTurn (owner_of z) h z.cells w.lock (mover_of z (actor.Fetcher k)) (fetcher_turn z.cells (mover_of z (actor.Fetcher k)) (w.fetchers k) c a)

-- an instruction that touches this is no wrong one, and aims one of four scopes if it aims any
abbrev pub CanGo : Touch → Type 0
CanGo (touch.Aims k w) = k < 4
CanGo touch.Wrong = ⊥
CanGo touch.Nothing = ⊥
CanGo _ = Unit {0}
