-- What a seat kept of the one list of steps of a table, each step with the machine in which it came.
use Rattle.std.specs.Prelude.{◌≡◌, ◌⊎◌, ℕ, suc, ◌<◌, ◌≤◌, ◌==◌, cond, ◌++◌, List, [], ◌∷◌, Option, None, map}
use Rattle.pointer_word.specs.Hands.{Hand, Note}
use Rattle.pointer_word.specs.Machine.{State as Machine, opening}
use Rattle.pointer_word.specs.Calls.{Runs}
use Rattle.pointer_word.specs.Sound.{Inv}
use Rattle.object_lock.specs.Seats.{Sizes}
use Rattle.object_lock.specs.Logs.{AreCallsAt, AreOwn, AreOwners, Deed, Follows, act_all, calls_of, is_kept, log_of}
use Rattle.object_moves.specs.Ways.{Did}
use Rattle.world_semantics.specs.declared.event.Choice.{Choice}
use Rattle.world_semantics.specs.Fetchers.{Fetching}
use Rattle.world_semantics.specs.Programs.{Eviction}
use Rattle.world_semantics.specs.Turns.{Answer, Turn, evacuator_turn, fetcher_turn}
use Rattle.world_semantics.specs.Worlds.{FetchesHonestly}
use Rattle.evacuator.specs.Rounds.{HasMadeRounds}
use Rattle.fetcher.specs.Serving.{AreRead, HasServed}
use Rattle.mover_events.specs.Making.{MakesStep, MayCome, reads_nothing}

-- what the seat j keeps of these steps, which began at the machine x, each with the machine in which it came
abbrev pub kept_at : ℕ → Machine → List (ℕ × Deed) → List (Machine × Deed)
kept_at j x [] = []
kept_at j x (d ∷ ds) = cond (d.0 == j) (cond (is_kept d.1.found d.1.calls) ((x, d.1) ∷ []) []) [] ++ kept_at j (act_all x d.1.calls) ds

-- These steps of the mover m, each at the word of its calls, came one behind the other at these machines, which are sound. It had x in hand at first and y at last, and in between what its step before left:
-- what others do in between leaves its hand
abbrev pub AreSteps : Type 0 → Sizes → ℕ → Hand → List (Machine × Deed) → Hand → Type 0
AreSteps honest z m x [] y = y ≡ x
AreSteps honest z m x (p ∷ ps) y = MayCome honest z p.0 p.1 × AreCallsAt z m p.1.word p.1.calls × Inv honest z.cells p.0 × (p.0.hand m ≡ x) × AreSteps honest z m ((act_all p.0 p.1.calls).hand m) ps y

-- Of each seat, the steps of its log are the ones that it keeps of the list, and they are such steps
abbrev pub PartsAreSteps : Type 0 → Type 0
PartsAreSteps honest = (z : Sizes) (j : ℕ) (steps : List (ℕ × Deed)) (x t : Machine) → Inv honest z.cells x → Follows z x steps t → Runs honest z.cells x (calls_of steps) t → AreOwn z steps
    → (map (λ p. p.1) (kept_at j x steps) ≡ log_of j steps) × AreSteps honest z (suc j) (x.hand (suc j)) (kept_at j x steps) (t.hand (suc j))

-- At each of these steps' machines the notes of all objects of the seat j, by what owns each object, are what its step before left: those at first, and the others at last
abbrev pub NotesStay : (ℕ → ℕ) → ℕ → (ℕ → Note) → List (Machine × Deed) → (ℕ → Note) → Type 0
NotesStay owner j notes [] last = (o : ℕ) → owner o ≡ j → last o ≡ notes o
NotesStay owner j notes (p ∷ ps) last = ((o : ℕ) → owner o ≡ j → p.0.note o ≡ notes o) × NotesStay owner j (act_all p.0 p.1.calls).note ps last

-- Where each owner's call that is kept was made by the seat that owns its object, nobody changes what a seat knows of its objects between two steps that it keeps
abbrev pub OwnersAreAlone : Type 0 → Type 0
OwnersAreAlone honest = (z : Sizes) (owner : ℕ → ℕ) (j : ℕ) (steps : List (ℕ × Deed)) (x t : Machine) → Inv honest z.cells x → Follows z x steps t → Runs honest z.cells x (calls_of steps) t → AreOwn z steps → AreOwners owner steps
    → NotesStay owner j x.note (kept_at j x steps) t.note

-- by turns of its own the actor a makes these steps, each at its machine, and is b then
abbrev pub MakesThem : {A : Type 0} → Type 0 → Sizes → (Machine → A → Choice → Answer → Turn A) → (Machine → A → Option (List ℕ) → Type 0) → A → List (Machine × Deed) → A → Type 0
MakesThem reliable z turn reads a [] b = b ≡ a
MakesThem {A} reliable z turn reads a (p ∷ ps) b = (c : A) × MakesStep z turn reads reliable a p.0 p.1 c × MakesThem reliable z turn reads c ps b

-- an evacuator of a world, the mover m, makes these steps
abbrev pub EvacuatorMakesThem : Type 0 → Sizes → ℕ → Option Eviction → List (Machine × Deed) → Option Eviction → Type 0
EvacuatorMakesThem reliable z m = MakesThem reliable z (λ x. evacuator_turn z.cells m) reads_nothing

-- a fetcher of a world does
abbrev pub FetcherMakesThem : Type 0 → Sizes → ℕ → Option Fetching → List (Machine × Deed) → Option Fetching → Type 0
FetcherMakesThem reliable z m = MakesThem reliable z (λ x. fetcher_turn z.cells m) (FetchesHonestly z.cells)

-- Where all that a seat's log has is what its rounds did, an evacuator of a world that is idle at first makes the seat's steps of the list, each at the machine in which it came,
-- and is idle then
abbrev pub RoundsAreInTheList : Type 0 → Type 0 → Type 0
RoundsAreInTheList honest reliable = (z : Sizes) (j : ℕ) (steps : List (ℕ × Deed)) (t : Machine) (did : Did) → z.frames ≤ 1048576 → suc j < 65536
    → Follows z opening steps t → Runs honest z.cells opening (calls_of steps) t → AreOwn z steps → did.log ≡ log_of j steps → HasMadeRounds reliable z (suc j) did
    → EvacuatorMakesThem reliable z (suc j) None (kept_at j opening steps) None

-- So it is of a fetcher, over an honest store, where all that a seat's log has is what it did with hints, and no get was refused; a reliable store refuses none
abbrev pub ServicesAreInTheList : Type 0 → Type 0 → Type 0
ServicesAreInTheList honest reliable = (z : Sizes) (j : ℕ) (steps : List (ℕ × Deed)) (t : Machine) (did : Did) → honest
    → Follows z opening steps t → Runs honest z.cells opening (calls_of steps) t → AreOwn z steps → did.log ≡ log_of j steps → (served : HasServed reliable z (suc j) did) → reliable ⊎ AreRead served.0
    → FetcherMakesThem reliable z (suc j) None (kept_at j opening steps) None
