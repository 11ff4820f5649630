-- Which world code holds, and what a step of it is.
use Rattle.std.specs.Prelude.{◌≡◌, ℕ, suc, ◌+◌, true, List, length, Option, Some, None, slice_get}
use Rattle.code_form.specs.Form.{Image}
use Rattle.cells.specs.Pieces.{is_piece}
use Rattle.remote_store.specs.declared.port.Port.{Port}
use Rattle.world_semantics.specs.declared.event.Actor.{Actor}
use Rattle.world_semantics.specs.declared.event.Choice.{Choice}
use Rattle.world_semantics.specs.declared.event.Step.{Step}
use Rattle.world_semantics.specs.declared.event.Step.TheVariants as step
use Rattle.world_actors.specs.Acting.{IsProgram, Shows, eviction_in}
use Rattle.world_fetchers.specs.Fetching.{fetching_in}
use Rattle.world_actors.specs.Seats.{Seat}
use Rattle.world_actors.specs.declared.evacuator.EvacuatorActor.{EvacuatorActor}
use Rattle.world_fetchers.specs.declared.fetcher.FetcherActor.{FetcherActor}
use Rattle.world.specs.Parts.{Parts}
use Rattle.world_semantics.specs.Turns.{Answer}
use Rattle.world_semantics.specs.Worlds.{Event, Follows, IsHonest, Sizes, World, event, setting, start}

module _ {S C : Type 0} (content : C → Option (List ℕ)) where
  -- The world w, of these sizes and with these images, is what code holds: its tables and berths show its machine, and its programs, evacuators
  -- and fetchers are so far. It was reached by events, over an honest store where h holds
  pub record IsWorld (h : Type 0) (z : Sizes) (images : ℕ → Image) (x : Parts S C) (w : World) : Type 0 where
    pub shows : Shows content z x.tables x.berths w.lock
    pub programs : (k : ℕ) (y : Seat × Port S C) → slice_get x.programs k ≡ Some y → IsProgram y.0 (w.programs k) × (y.0.setting ≡ setting z images k)
    pub evacuators : (k : ℕ) (y : EvacuatorActor × Port S C) → slice_get x.evacuators k ≡ Some y → (w.evacuators k ≡ eviction_in y.0) × (y.0.mover ≡ suc (z.programs + k)) × (length y.0.words.items ≡ z.cells)
    pub fetchers : (k : ℕ) (y : FetcherActor × Port S C) → slice_get x.fetchers k ≡ Some y → (w.fetchers k ≡ fetching_in y.0) × (y.0.mover ≡ suc (z.programs + z.evacuators + k)) × (length y.0.words.items ≡ z.cells)
    pub reached : (events : List Event) × Follows h z images (start images) events w
    pub cells : is_piece z.cells ≡ true
    pub programs_many : length x.programs ≡ z.programs
    pub evacuators_many : length x.evacuators ≡ z.evacuators
    pub fetchers_many : length x.fetchers ≡ z.fetchers

  -- An actor has done what it chose exactly where the definition has that event, for the answer that the store told, which an honest store may give; else no
  -- answer makes it an event, and all is the same
  abbrev pub Stepped : (h : Type 0) → Sizes → (ℕ → Image) → Parts S C → World → Actor → Choice → (Answer → Type 0) → Type 0 → Step → Type 0
  Stepped h z images x w actor choice told same step.Took =
      (a : Answer) × (h → IsHonest z w actor a) × told a × ((u : World) × (event z images w (record { actor = actor; choice = choice; answer = a }) ≡ Some u) × IsWorld h z images x u)
  Stepped h z images x w actor choice told same step.NotEnabled =
      ((a : Answer) → event z images w (record { actor = actor; choice = choice; answer = a }) ≡ None) × same
