-- What a turn comes to where code takes it.
use Rattle.std.specs.Prelude.{◌≡◌, ℕ, ◌%◌, ◌≤◌, List, length, Option, Some, None, option_map}
use Rattle.pointer_word.specs.Machine.{Far, State}
use Rattle.pointer_word.specs.Sound.{Inv}
use Rattle.world_memory.specs.Berths.{Berths}
use Rattle.world_semantics.specs.declared.event.Step.{Step}
use Rattle.world_semantics.specs.declared.event.Step.TheVariants as step
use Rattle.world_memory.specs.Answered.{Asked}
use Rattle.world_actors.specs.Asking.{asked_in}
use Rattle.world_actors.specs.declared.evacuator.EvacuatorActor.{EvacuatorActor}
use Rattle.world_actors.specs.declared.evict.Evicted.{Evicted}
use Rattle.world_actors.specs.declared.evict.Evicted.TheVariants as e
use Rattle.world_semantics.specs.InHand.{FitsEvacuator, FitsEviction, FitsMode}
use Rattle.world_semantics.specs.Programs.{Eviction, Program}
use Rattle.world_actors.specs.Seats.{Seat, eviction_of, mode_of}
use Rattle.world_memory.specs.Shown.{AreFar, Shown}
use Rattle.world_memory.specs.Tables.{Tables}
use Rattle.world_semantics.specs.Turns.{Answer, Turn, taken}
use Rattle.world_semantics.specs.Worlds.{ReadsHonestly, Sizes}

-- for an answer of this kind a turn is enabled, of pieces of n cells, and leads to what Q says
abbrev pub Leads : {A : Type 0} → ℕ → State → (Answer → Turn A) → (Answer → Type 0) → (State → A → Type 0) → Type 0
Leads {A} n s turn honest Q = (a : Answer) × honest a × ((r : State × A) × (taken n s (turn a) ≡ Some r) × Q r.0 r.1)

-- A turn is taken exactly where it is enabled, and leads to what Q says. One that isn't taken is not enabled, whatever is answered, and all is the same
abbrev pub Goes : {A : Type 0} → ℕ → State → (Answer → Turn A) → (Answer → Type 0) → (State → A → Type 0) → Type 0 → Step → Type 0
Goes n s turn honest Q same step.Took = Leads n s turn honest Q
Goes n s turn honest Q same step.NotEnabled = ((a : Answer) → taken n s (turn a) ≡ None) × same

-- nothing was read
abbrev pub Unread : Answer → Type 0
Unread a = a.read ≡ None

-- nothing was read, and so the store answered
abbrev pub UnreadSo : (Answer → Type 0) → Answer → Type 0
UnreadSo told a = (a.read ≡ None) × told a

-- what an event of moving out leads to: it goes on, or it ends well, or the store failed
pub data Outcome : Type 0 where
  On : Eviction → Outcome
  Done : Outcome
  Failed : Outcome

-- what a mover goes on as, by what the event of moving out led to
abbrev pub resumes : {A : Type 0} → (Eviction → A) → A → A → Outcome → A
resumes go done failed (On e) = go e
resumes go done failed Done = done
resumes go done failed Failed = failed

-- the outcome that code holds, by the words that were copied
abbrev pub outcome_of : Evicted → List ℕ → Outcome
outcome_of (e.On x) words = On (eviction_of x words)
outcome_of e.Done words = Done
outcome_of e.Failed words = Failed

-- a program that code holds, and one of the definitions
pub record IsProgram (x : Seat) (p : Program) : Type 0 where
  pub core : p.core ≡ x.core
  pub holds : p.holds ≡ x.holds
  pub mode : p.mode ≡ mode_of x.mode x.words
  pub completed : x.completed ≡ p.completed % 18446744073709551616

-- how far an evacuator is that code holds
abbrev pub eviction_in : EvacuatorActor → Option Eviction
eviction_in x = option_map (λ e. eviction_of e x.words.items) x.eviction

module _ {C : Type 0} (content : C → Option (List ℕ)) where
  -- the tables and berths of code show a state
  pub record Shows (z : Sizes) (t : Tables) (berths : Berths C) (s : State) : Type 0 where
    pub tables : Shown z t s
    pub far : AreFar content z.cells berths.items s.far
    pub size : berths.cells ≡ z.cells
    pub many : length berths.items ≡ z.objects
    pub objects_few : z.objects ≤ 16777216
    pub frames_few : z.frames ≤ 1048576

  -- A mover with this in hand moves an object out of the machine that code holds; h says that the store is honest
  pub record Moves (h : Type 0) (z : Sizes) (t : Tables) (berths : Berths C) (m : ℕ) (x : Eviction) (s : State) : Type 0 where
    pub shows : Shows z t berths s
    pub inv : Inv h z.cells s
    pub fits : FitsEviction z.cells s.far (s.hand m) x

  -- an evacuator that code holds has in hand what it says
  pub record Evacuates (h : Type 0) (z : Sizes) (t : Tables) (berths : Berths C) (x : EvacuatorActor) (s : State) : Type 0 where
    pub shows : Shows z t berths s
    pub inv : Inv h z.cells s
    pub fits : FitsEvacuator z.cells s.far (s.hand x.mover) (eviction_in x)
    pub wide : length x.words.items ≡ z.cells

  -- A program that code holds, with what it has in hand: its objects are there
  pub record Seated (h : Type 0) (z : Sizes) (t : Tables) (berths : Berths C) (x : Seat) (s : State) (p : Program) : Type 0 where
    pub shows : Shows z t berths s
    pub program : IsProgram x p
    pub inv : Inv h z.cells s
    pub fits : FitsMode h z.cells s.far (s.hand x.setting.mover) p.mode
    pub limit : x.setting.limit ≤ z.objects
    pub size : x.setting.size ≡ z.cells

  -- Where the sizes are as given, a program takes a turn exactly where it is enabled, and is then what the turn makes of it; what is read is what an honest
  -- store may give
  abbrev pub TurnsIn : (Sizes → Type 0) → (h : Type 0) → (t t' : Tables) → (berths berths' : Berths C) → (x x' : Seat) → (State → Program → Answer → Turn Program) → Type 0 → Step → Type 0
  TurnsIn given h t t' berths berths' x x' turn same r = (z : Sizes) (s : State) (p : Program) → given z → Seated h z t berths x s p
      → Goes z.cells s (turn s p) (λ a. h → ReadsHonestly z.cells s p.mode a.read) (λ u q. Shows z t' berths' u × IsProgram x' q × (x'.setting ≡ x.setting)) same r

  -- the same for any sizes
  abbrev pub Turns : (h : Type 0) → (t t' : Tables) → (berths berths' : Berths C) → (x x' : Seat) → (State → Program → Answer → Turn Program) → Type 0 → Step → Type 0
  Turns h t t' berths berths' x x' turn same r = (z : Sizes) (s : State) (p : Program) → Seated h z t berths x s p
      → Goes z.cells s (turn s p) (λ a. h → ReadsHonestly z.cells s p.mode a.read) (λ u q. Shows z t' berths' u × IsProgram x' q × (x'.setting ≡ x.setting)) same r

  -- the same where the store is asked, and so answers
  abbrev pub TurnsTold : (Sizes → Type 0) → (h : Type 0) → (t t' : Tables) → (berths berths' : Berths C) → (x x' : Seat) → (ℕ → (ℕ → Far) → Asked → Answer → Type 0) → (State → Program → Answer → Turn Program) → Type 0 → Step → Type 0
  TurnsTold given h t t' berths berths' x x' told turn same r = (z : Sizes) (s : State) (p : Program) → given z → Seated h z t berths x s p
      → Goes z.cells s (turn s p) (λ a. (h → ReadsHonestly z.cells s p.mode a.read) × told z.cells s.far (asked_in z.cells p.mode) a) (λ u q. Shows z t' berths' u × IsProgram x' q × (x'.setting ≡ x.setting)) same r
