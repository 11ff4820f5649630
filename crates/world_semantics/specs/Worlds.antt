-- The world: programs, evacuators and fetchers over one machine of words, frames and cells, and its events.
use Rattle.std.specs.Prelude.{◌≡◌, ℕ, suc, ◌+◌, ◌*◌, ◌/◌, ◌<◌, cond, ◌&&◌, nat_lt, Bool, true, Option, Some, None, List, [], ◌∷◌}
use Rattle.code_form.specs.Form.{Image}
use Rattle.pointer_word.specs.Hands.{upd, listed}
use Rattle.pointer_word.specs.Machine.{Far, Kept, State, opening}
use Rattle.world_semantics.specs.declared.event.Actor.{Actor}
use Rattle.world_semantics.specs.declared.event.Actor.TheVariants as actor
use Rattle.world_semantics.specs.declared.event.Choice.{Choice}
use Rattle.world_semantics.specs.declared.event.Choice.TheVariants as choice
use Rattle.world_semantics.specs.Fetchers.{Fetching, as_mode}
use Rattle.world_semantics.specs.Programs.{Eviction, Mode, Reading, Program, Setting, begun}
use Rattle.world_semantics.specs.Turns.{Answer, taken, evacuator_turn, fetcher_turn, program_turn}

-- the cells of a piece, and how many programs, evacuators, fetchers, frames and objects there are
pub record Sizes : Type 0 where
  pub cells : ℕ
  pub programs : ℕ
  pub evacuators : ℕ
  pub fetchers : ℕ
  pub frames : ℕ
  pub objects : ℕ

-- the machine's state; each program; each evacuator, which is idle or moves an object out; and each fetcher, which is idle or brings one in
pub record World : Type 0 where
  pub lock : State
  pub programs : ℕ → Program
  pub evacuators : ℕ → Option Eviction
  pub fetchers : ℕ → Option Fetching

-- an actor does what it chooses; the answer is what nobody can know before
pub record Event : Type 0 where
  pub actor : Actor
  pub choice : Choice
  pub answer : Answer

-- the number of objects of each program; program k has those from k times it on
abbrev pub share : Sizes → ℕ
share z = z.objects / z.programs

-- the number of an actor as a mover: programs first, from 1, then evacuators, then fetchers
abbrev pub mover_of : Sizes → Actor → ℕ
mover_of z (actor.Program k) = suc k
mover_of z (actor.Evacuator k) = suc (z.programs + k)
mover_of z (actor.Fetcher k) = suc (z.programs + z.evacuators + k)

-- what program k runs on
abbrev pub setting : Sizes → (ℕ → Image) → ℕ → Setting
setting z images k = record { size = z.cells; base = k * share z; limit = k * share z + share z; mover = suc k; image = images k }

-- where everything begins
abbrev pub start : (ℕ → Image) → World
start images = record { lock = opening; programs = λ k. begun (images k); evacuators = λ _. None; fetchers = λ _. None }

-- there are an object and a frame of these numbers
abbrev pub in_range : Sizes → Choice → Bool
in_range z choice.Next = true
in_range z (choice.Look f) = nat_lt f z.frames
in_range z (choice.Claim f) = nat_lt f z.frames
in_range z (choice.Mark o f) = nat_lt o z.objects && nat_lt f z.frames
in_range z (choice.Leave o f) = nat_lt o z.objects && nat_lt f z.frames
in_range z (choice.Begin o) = nat_lt o z.objects

-- there is such an actor
abbrev pub is_actor : Sizes → Actor → Bool
is_actor z (actor.Program k) = nat_lt k z.programs
is_actor z (actor.Evacuator k) = nat_lt k z.evacuators
is_actor z (actor.Fetcher k) = nat_lt k z.fetchers

-- the world after a turn of program k
abbrev pub with_program : World → ℕ → Option (State × Program) → Option World
with_program w k None = None
with_program w k (Some r) = Some (record w { lock = r.0; programs = upd w.programs k r.1 })

-- the world after a turn of evacuator k
abbrev pub with_evacuator : World → ℕ → Option (State × Option Eviction) → Option World
with_evacuator w k None = None
with_evacuator w k (Some r) = Some (record w { lock = r.0; evacuators = upd w.evacuators k r.1 })

-- the world after a turn of fetcher k
abbrev pub with_fetcher : World → ℕ → Option (State × Option Fetching) → Option World
with_fetcher w k None = None
with_fetcher w k (Some r) = Some (record w { lock = r.0; fetchers = upd w.fetchers k r.1 })

-- the world after a turn of an actor
abbrev pub acted : Sizes → (ℕ → Image) → World → Actor → Choice → Answer → Option World
acted z images w (actor.Program k) c a = with_program w k (taken z.cells w.lock (program_turn (setting z images k) w.lock (w.programs k) c a))
acted z images w (actor.Evacuator k) c a = with_evacuator w k (taken z.cells w.lock (evacuator_turn z.cells (mover_of z (actor.Evacuator k)) (w.evacuators k) c a))
acted z images w (actor.Fetcher k) c a = with_fetcher w k (taken z.cells w.lock (fetcher_turn z.cells (mover_of z (actor.Fetcher k)) (w.fetchers k) c a))

-- The world after an event; none where it isn't enabled
abbrev pub event : Sizes → (ℕ → Image) → World → Event → Option World
event z images w e = cond (is_actor z e.actor && in_range z e.choice) (acted z images w e.actor e.choice e.answer) None

-- a read gives what the last put into the store cell put, where that succeeded
abbrev pub IsHonestRead : ℕ → Far → Option (List ℕ) → Type 0
IsHonestRead n (Kept words) (Some read) = (i : ℕ) → i < n → listed read i ≡ listed words i
IsHonestRead n _ _ = Unit {0}

-- a program that reads the store reads what was put
abbrev pub ReadsHonestly : ℕ → State → Mode → Option (List ℕ) → Type 0
ReadsHonestly n s (Reading o f) read = IsHonestRead n (s.far o) read
ReadsHonestly n s _ read = Unit {0}

-- a fetcher that reads the store reads what was put
abbrev pub FetchesHonestly : ℕ → State → Option Fetching → Option (List ℕ) → Type 0
FetchesHonestly n s None read = Unit {0}
FetchesHonestly n s (Some d) read = ReadsHonestly n s (as_mode d) read

-- the store's answer in an event is that of an honest store
abbrev pub IsHonest : Sizes → World → Actor → Answer → Type 0
IsHonest z w (actor.Program k) a = ReadsHonestly z.cells w.lock (w.programs k).mode a.read
IsHonest z w (actor.Evacuator k) a = Unit {0}
IsHonest z w (actor.Fetcher k) a = FetchesHonestly z.cells w.lock (w.fetchers k) a.read

-- A list of events leads from one world to another; h says that the store is honest
abbrev pub Follows : Type 0 → Sizes → (ℕ → Image) → World → List Event → World → Type 0
Follows h z images w [] v = v ≡ w
Follows h z images w (e ∷ es) v = (u : World) × (event z images w e ≡ Some u) × (h → IsHonest z w e.actor e.answer) × Follows h z images u es v
