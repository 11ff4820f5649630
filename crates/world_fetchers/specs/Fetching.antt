-- How a fetcher that code holds is read as one of the definitions, what its turn asks of the store, and what it has in hand.
use Rattle.std.specs.Prelude.{◌≡◌, ℕ, Option, Some, None, List, [], length, option_map}
use Rattle.pointer_word.specs.Machine.{State}
use Rattle.pointer_word.specs.Sound.{Inv}
use Rattle.world_actors.specs.Acting.{Shows}
use Rattle.world_actors.specs.Asking.{asked_in}
use Rattle.world_fetchers.specs.declared.fetch.Fetching.{Fetching as RustFetching}
use Rattle.world_fetchers.specs.declared.fetch.Fetching.TheVariants as d
use Rattle.world_fetchers.specs.declared.fetcher.FetcherActor.{FetcherActor}
use Rattle.world_memory.specs.Answered.{Asked, Nothing}
use Rattle.world_memory.specs.Berths.{Berths}
use Rattle.world_memory.specs.Tables.{Tables}
use Rattle.world_semantics.specs.Fetchers.{Fetching, Bringing, Reading, Filling, Releasing, Retreating, as_mode}
use Rattle.world_semantics.specs.InHand.{FitsFetcher, FitsMode}
use Rattle.world_semantics.specs.Worlds.{Sizes}

-- how far a fetcher is with an object that it brings in, by the words that it fills the frame with
abbrev pub fetching_of : RustFetching → List ℕ → Fetching
fetching_of (d.Bringing o) words = Bringing o
fetching_of (d.Reading o f) words = Reading o f
fetching_of (d.Filling o f k) words = Filling o f words k
fetching_of (d.Clearing o f k) words = Filling o f [] k
fetching_of (d.Releasing o f) words = Releasing o f
fetching_of (d.Retreating o) words = Retreating o

-- how far a fetcher is that code holds
abbrev pub fetching_in : FetcherActor → Option Fetching
fetching_in x = option_map (λ y. fetching_of y x.words.items) x.fetching

-- a fetcher gets an object where it reads the store
abbrev pub asked_ahead : ℕ → Option Fetching → Asked
asked_ahead n None = Nothing
asked_ahead n (Some x) = asked_in n (as_mode x)

module _ {C : Type 0} (content : C → Option (List ℕ)) where
  -- A mover with this in hand brings an object in to the machine that code holds; h says that the store is honest
  pub record Brings (h : Type 0) (z : Sizes) (t : Tables) (berths : Berths C) (m : ℕ) (x : Fetching) (s : State) : Type 0 where
    pub shows : Shows content z t berths s
    pub inv : Inv h z.cells s
    pub fits : FitsMode h z.cells s.far (s.hand m) (as_mode x)

  -- a fetcher that code holds has in hand what it says
  pub record Fetches (h : Type 0) (z : Sizes) (t : Tables) (berths : Berths C) (x : FetcherActor) (s : State) : Type 0 where
    pub shows : Shows content z t berths s
    pub inv : Inv h z.cells s
    pub fits : FitsFetcher h z.cells s.far (s.hand x.mover) (fetching_in x)
    pub wide : length x.words.items ≡ z.cells
