-- What an event changes.
use Rattle.std.specs.Prelude.{◌≡◌, ◌≢◌, ◌⊎◌, ℕ, Option, Some, None}
use Rattle.pointer_word.specs.Machine.{State}
use Rattle.pointer_word.specs.Calls.{Call, Opens, Closes, Clears, Stores, Begins, Claims, Fills, Arrives, Unclaims, Retreats, Marks, Copies, Puts, Commits, Aborts, Leaves, Releases, May, IsLawful, act}
use Rattle.pointer_word.specs.Sound.{Inv}
use Rattle.world_semantics.specs.declared.event.Actor.{Actor}
use Rattle.world_semantics.specs.declared.event.Actor.TheVariants as actor
use Rattle.world_semantics.specs.Worlds.{Sizes, World, Event, mover_of}
use Rattle.world_semantics.specs.InHand.{HandsFit}

-- the mover that makes a call; none is named where the object's owner makes it
abbrev pub maker : Call → Option ℕ
maker (Opens o) = None
maker (Closes o) = None
maker (Clears o) = None
maker (Stores o f i v) = None
maker (Begins m o c own) = Some m
maker (Claims m o f) = Some m
maker (Fills m f i v) = Some m
maker (Arrives m o f own) = Some m
maker (Unclaims m f) = Some m
maker (Retreats m o) = Some m
maker (Marks m o f) = Some m
maker (Copies m f i) = Some m
maker (Puts m o x) = Some m
maker (Commits m o f) = Some m
maker (Aborts m o f) = Some m
maker (Leaves m o f) = Some m
maker (Releases m f) = Some m

-- the number, or m where there is none
abbrev pub or_self : Option ℕ → ℕ → ℕ
or_self None m = m
or_self (Some j) m = j

-- The mover m leads the machine from s to t: by no call; or by one that it may make, and that makes exactly its change of words, frame words and cells
abbrev pub OneCall : Type 0 → ℕ → ℕ → State → State → Type 0
OneCall h n m s t = (t ≡ s) ⊎ ((c : Call) × (or_self (maker c) m ≡ m) × May h n s c × IsLawful s c × (t ≡ act s c))

-- every other actor is as it was
abbrev pub OthersStay : World → World → Actor → Type 0
OthersStay w u (actor.Program k) = ((j : ℕ) → j ≢ k → u.programs j ≡ w.programs j) × (u.evacuators ≡ w.evacuators) × (u.fetchers ≡ w.fetchers)
OthersStay w u (actor.Evacuator k) = ((j : ℕ) → j ≢ k → u.evacuators j ≡ w.evacuators j) × (u.programs ≡ w.programs) × (u.fetchers ≡ w.fetchers)
OthersStay w u (actor.Fetcher k) = ((j : ℕ) → j ≢ k → u.fetchers j ≡ w.fetchers j) × (u.programs ≡ w.programs) × (u.evacuators ≡ w.evacuators)

-- every other mover has in hand what it had
abbrev pub OtherHandsStay : State → State → ℕ → Type 0
OtherHandsStay s t m = (j : ℕ) → j ≢ m → t.hand j ≡ s.hand j

-- what stands in every world that is reached: the machine is sound, and each actor has in hand what its mode says
pub record IsSound (h : Type 0) (z : Sizes) (w : World) : Type 0 where
  pub lock : Inv h z.cells w.lock
  pub hands : HandsFit h z w

-- what one event changes
pub record IsStep (h : Type 0) (z : Sizes) (w : World) (e : Event) (u : World) : Type 0 where
  pub call : OneCall h z.cells (mover_of z e.actor) w.lock u.lock
  pub others : OthersStay w u e.actor
  pub hands : OtherHandsStay w.lock u.lock (mover_of z e.actor)
