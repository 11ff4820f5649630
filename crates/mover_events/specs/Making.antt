-- What a seat did, step by step as its log has it, as turns of its actor in a world: at every machine in which a step may have come.
use Rattle.std.specs.Prelude.{◌≡◌, ◌⊎◌, ℕ, ◌<◌, ◌≤◌, ◌++◌, List, [], ◌∷◌, Option, Some, None}
use Rattle.pointer_word.specs.Machine.{State as Machine, Unknown}
use Rattle.pointer_word.specs.Calls.{Call, Puts, Runs, act}
use Rattle.object_lock.specs.Seats.{Sizes}
use Rattle.object_lock.specs.Logs.{Deed, IsShown, act_all}
use Rattle.object_moves.specs.Ways.{Did}
use Rattle.world_semantics.specs.declared.event.Choice.{Choice}
use Rattle.world_semantics.specs.declared.event.Choice.TheVariants as choice
use Rattle.world_semantics.specs.Turns.{Answer, Turn, evacuator_turn, taken}
use Rattle.evacuator.specs.declared.counts.Round.{Round}
use Rattle.evacuator.specs.Rounds.{HasMadeRounds, Visits}

-- The step may have come at the machine x: that shows the number that was found, and the step's calls may be made there, one behind the other
pub record MayCome (honest : Type 0) (z : Sizes) (x : Machine) (d : Deed) : Type 0 where
  pub shown : IsShown z x d.word d.found
  pub behind : Machine
  pub may : Runs honest z.cells x d.calls behind

-- the choice is one of objects and frames that a table of these sizes has
abbrev pub IsThere : Sizes → Choice → Type 0
IsThere z choice.Next = Unit {0}
IsThere z (choice.Look f) = f < z.frames
IsThere z (choice.Claim f) = f < z.frames
IsThere z (choice.Mark o f) = (o < z.objects) × (f < z.frames)
IsThere z (choice.Leave o f) = (o < z.objects) × (f < z.frames)
IsThere z (choice.Begin o) = o < z.objects

-- Over what an actor does at each machine of a table of these sizes
module _ {A : Type 0} (z : Sizes) (turn : Machine → A → Choice → Answer → Turn A) where
  -- by one turn, which it may take at the machine x, and at which the store is not read, the actor a makes the call, and is b then
  abbrev pub MakesCall : A → Machine → Call → A → Type 0
  MakesCall a x call b = (v : Choice) × (w : Answer) × IsThere z v × (w.read ≡ None) × (taken z.cells x (turn x a v w) ≡ Some (act x call, b))

  -- by turns, one behind the other, it makes these calls
  abbrev pub MakesCalls : A → Machine → List Call → A → Type 0
  MakesCalls a x [] b = b ≡ a
  MakesCalls a x (call ∷ calls) b = (c : A) × MakesCall a x call c × MakesCalls c (act x call) calls b

  -- and over what an honest store may give it where it reads there
  module _ (reads : Machine → A → Option (List ℕ) → Type 0) where
    -- by one turn, which it may take at the machine x, it goes on without a call, as where it reads the store, which may give what it gives
    abbrev pub GoesAlone : A → Machine → A → Type 0
    GoesAlone a x b = (w : Answer) × reads x a w.read × (taken z.cells x (turn x a choice.Next w) ≡ Some (x, b))

    -- by turns it makes the calls of a step; a put that was refused before, which a reliable store never does, or a turn without a call behind, is one of its turns too, though no step of a table
    abbrev pub MakesStep : Type 0 → A → Machine → Deed → A → Type 0
    MakesStep reliable a x d b = MakesCalls a x d.calls b ⊎ (((reliable → ⊥) × (m o : ℕ) × MakesCalls a x (Puts m o Unknown ∷ d.calls) b) ⊎ ((c : A) × MakesCalls a x d.calls c × GoesAlone c (act_all x d.calls) b))

    -- The actor a makes these steps, one behind the other, and is b then. Each is so at every machine in which it may have come, and what the actor is behind it is the same
    -- at all of them
    abbrev pub MakesSteps : Type 0 → Type 0 → A → List Deed → A → Type 0
    MakesSteps reliable honest a [] b = b ≡ a
    MakesSteps reliable honest a (d ∷ ds) b = (c : A) × ((x : Machine) → MayCome honest z x d → MakesStep reliable a x d c) × MakesSteps reliable honest c ds b

-- an evacuator reads nothing
abbrev pub reads_nothing : {A : Type 0} → Machine → A → Option (List ℕ) → Type 0
reads_nothing x a r = Unit {0}

-- an evacuator that is idle makes these steps, and is idle then
abbrev pub EvacuatorMakes : Type 0 → Type 0 → Sizes → ℕ → List Deed → Type 0
EvacuatorMakes reliable honest z m ds = MakesSteps z (λ x. evacuator_turn z.cells m) reads_nothing reliable honest None ds None

-- What came to the log of an evacuator in a round are steps that the evacuator of a world makes; and so is all that its log has, where all that it did it did in rounds
abbrev pub RoundsAreMade : Type 0 → Type 0 → Type 0
RoundsAreMade reliable honest = (z : Sizes) (m : ℕ) → z.frames ≤ 1048576 → m < 65536 →
    ((before after : Did) (r : Round) → Visits z m before after r → (reliable → r.failed ≡ 0) → (ds : List Deed) × (after.log ≡ before.log ++ ds) × EvacuatorMakes reliable honest z m ds)
    × ((did : Did) → HasMadeRounds reliable z m did → EvacuatorMakes reliable honest z m did.log)
