-- What an actor's mode says of what it has in hand as a mover, x; `far` are the store cells, n the cells of a piece, and h says that the store is honest.
use Rattle.std.specs.Prelude.{◌≡◌, ℕ, ◌<◌, ◌≤◌, Option, Some, None, List, length}
use Rattle.pointer_word.specs.Hands.{Hand, listed}
use Rattle.pointer_word.specs.Machine.{Far, Never, Kept, Unknown}
use Rattle.pointer_word.specs.Calls.{Copied}
use Rattle.pointer_word.specs.Asked.{HasNoFrame, HasNothing}
use Rattle.pointer_word.specs.Ordered.{IsCopied, IsFilled}
use Rattle.world_semantics.specs.declared.event.Actor.TheVariants as actor
use Rattle.world_semantics.specs.Fetchers.{Fetching, as_mode}
use Rattle.world_semantics.specs.Programs.{Eviction, Copying, Stored, NotStored, Refused, Freed, Mode, Ready, Missing, Bringing, Reading, Filling, Evicting, Releasing, Retreating, Closing, Wanted}
use Rattle.world_semantics.specs.Worlds.{Sizes, World, mover_of}

-- something was put into the store cell, or was tried to be
abbrev pub WasPut : Far → Type 0
WasPut Never = ⊥
WasPut (Kept words) = Unit {0}
WasPut Unknown = Unit {0}

-- it moves this object out of the frame f
abbrev pub MovesOut : ℕ → ℕ → Hand → Type 0
MovesOut o f x = (x.leaving ≡ Some o) × (x.source ≡ f) × (x.freed ≡ None)

-- how far it is with moving an object out
abbrev pub FitsEviction : ℕ → (ℕ → Far) → Hand → Eviction → Type 0
FitsEviction n far x (Copying o f words) = MovesOut o f x × IsCopied x words (length words) × (length words ≤ n)
FitsEviction n far x (Stored o f) = MovesOut o f x × Copied n x (far o)
FitsEviction n far x (NotStored o f) = MovesOut o f x
FitsEviction n far x (Refused o f) = MovesOut o f x
FitsEviction n far x (Freed f) = (x.leaving ≡ None) × (x.freed ≡ Some f)

-- it brings this object in, and has nothing else in hand
abbrev pub OnlyBrings : ℕ → Hand → Type 0
OnlyBrings o x = (x.bringing ≡ Some o) × (x.leaving ≡ None) × HasNoFrame x

-- it brings this object into the frame f, and has nothing else in hand
abbrev pub BringsInto : ℕ → ℕ → Hand → Type 0
BringsInto o f x = (x.bringing ≡ Some o) × (x.leaving ≡ None) × (x.claimed ≡ Some f) × (x.freed ≡ None)

-- the words are what the berth in hand keeps
abbrev pub IsPromised : ℕ → Hand → List ℕ → Type 0
IsPromised n x words = (i : ℕ) → i < n → listed words i ≡ listed x.promised i

-- a program in a mode
abbrev pub FitsMode : Type 0 → ℕ → (ℕ → Far) → Hand → Mode → Type 0
FitsMode h n far x Ready = HasNothing x
FitsMode h n far x (Missing o) = HasNothing x
FitsMode h n far x (Bringing o) = OnlyBrings o x
FitsMode h n far x (Reading o f) = BringsInto o f x × WasPut (far o)
FitsMode h n far x (Filling o f words k) = BringsInto o f x × IsFilled x words k × (h → IsPromised n x words)
FitsMode h n far x (Evicting o e) = (x.bringing ≡ Some o) × (x.claimed ≡ None) × FitsEviction n far x e
FitsMode h n far x (Releasing o f) = BringsInto o f x
FitsMode h n far x (Retreating o) = OnlyBrings o x
FitsMode h n far x Closing = HasNothing x
FitsMode h n far x (Wanted w) = HasNothing x

-- an evacuator that is idle, or moves an object out
abbrev pub FitsEvacuator : ℕ → (ℕ → Far) → Hand → Option Eviction → Type 0
FitsEvacuator n far x None = HasNothing x
FitsEvacuator n far x (Some e) = (x.bringing ≡ None) × (x.claimed ≡ None) × FitsEviction n far x e

-- a fetcher that is idle, or brings an object in as a program does
abbrev pub FitsFetcher : Type 0 → ℕ → (ℕ → Far) → Hand → Option Fetching → Type 0
FitsFetcher h n far x None = HasNothing x
FitsFetcher h n far x (Some d) = FitsMode h n far x (as_mode d)

-- each actor has in hand what its mode says
pub record HandsFit (h : Type 0) (z : Sizes) (w : World) : Type 0 where
  pub program : (k : ℕ) → k < z.programs → FitsMode h z.cells w.lock.far (w.lock.hand (mover_of z (actor.Program k))) (w.programs k).mode
  pub evacuator : (k : ℕ) → k < z.evacuators → FitsEvacuator z.cells w.lock.far (w.lock.hand (mover_of z (actor.Evacuator k))) (w.evacuators k)
  pub fetcher : (k : ℕ) → k < z.fetchers → FitsFetcher h z.cells w.lock.far (w.lock.hand (mover_of z (actor.Fetcher k))) (w.fetchers k)
