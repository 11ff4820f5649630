-- What the store told an actor of a world in an event, by the actor's way to it before and after.
use Rattle.std.specs.Prelude.{◌≡◌, ℕ, List, Some, slice_get}
use Rattle.remote_store.specs.declared.port.Port.{Port}
use Rattle.world_memory.specs.Answered.{AnswersSo, Asked}
use Rattle.world_actors.specs.Asking.{asked_idly, asked_in}
use Rattle.world_fetchers.specs.Fetching.{asked_ahead}
use Rattle.world_actors.specs.Seats.{Seat}
use Rattle.world_actors.specs.declared.evacuator.EvacuatorActor.{EvacuatorActor}
use Rattle.world_fetchers.specs.declared.fetcher.FetcherActor.{FetcherActor}
use Rattle.world_semantics.specs.declared.event.Actor.{Actor}
use Rattle.world_semantics.specs.declared.event.Actor.TheVariants as actor
use Rattle.world.specs.Parts.{Parts}
use Rattle.world_semantics.specs.Turns.{Answer}
use Rattle.world_semantics.specs.Worlds.{Sizes, World}

-- what an actor's next event asks
abbrev pub asked_by : Sizes → World → Actor → Asked
asked_by z w (actor.Program k) = asked_in z.cells (w.programs k).mode
asked_by z w (actor.Evacuator k) = asked_idly z.cells (w.evacuators k)
asked_by z w (actor.Fetcher k) = asked_ahead z.cells (w.fetchers k)

-- it is the actor's way to the store
abbrev pub IsPortOf : {S C : Type 0} → Parts S C → Actor → Port S C → Type 0
IsPortOf x (actor.Program k) p = (y : Seat) × (slice_get x.programs k ≡ Some (y, p))
IsPortOf x (actor.Evacuator k) p = (y : EvacuatorActor) × (slice_get x.evacuators k ≡ Some (y, p))
IsPortOf x (actor.Fetcher k) p = (y : FetcherActor) × (slice_get x.fetchers k ≡ Some (y, p))

-- `failures` counts the calls of the store that failed, `gives` tells what a read of a cell gave, by the store before it and after it
module _ {S C : Type 0} (reliable : Type 0) (failures : S → ℕ) (gives : S → C → List ℕ → S → Type 0) where
  -- the store answered so to an actor of the world w, which code held so before and so after
  abbrev pub StoreTold : Sizes → World → Parts S C → Parts S C → Actor → Answer → Type 0
  StoreTold z w x y actor a = (p q : Port S C) → IsPortOf x actor p → IsPortOf y actor q → AnswersSo reliable failures gives z.cells x.berths.items p q w.lock.far (asked_by z w actor) a
