-- What code holds of a world.
use Rattle.std.specs.Prelude.{List}
use Rattle.remote_store.specs.declared.port.Port.{Port}
use Rattle.world_memory.specs.Berths.{Berths}
use Rattle.world_memory.specs.Tables.{Tables}
use Rattle.world_actors.specs.Seats.{Seat}
use Rattle.world_actors.specs.declared.evacuator.EvacuatorActor.{EvacuatorActor}
use Rattle.world_fetchers.specs.declared.fetcher.FetcherActor.{FetcherActor}
use Rattle.world.specs.declared.world.World.{World}

-- the tables of words, frames and cells, the berth of each object, and each actor beside its way to the store
pub record Parts (S C : Type 0) : Type 0 where
  pub tables : Tables
  pub berths : Berths C
  pub programs : List (Seat × Port S C)
  pub evacuators : List (EvacuatorActor × Port S C)
  pub fetchers : List (FetcherActor × Port S C)

-- the parts of a world
abbrev pub parts : {S C : Type 0} → World S C → Parts S C
parts w = record { tables = w.lock.memory; berths = w.lock.berths; programs = w.programs.items; evacuators = w.evacuators.items; fetchers = w.fetchers.items }
