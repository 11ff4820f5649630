-- The seats that movers give back, with what they did there.
use Rattle.std.specs.Prelude.{◌≡◌, ℕ, ◌+◌, ◌<◌, ◌≤◌, List, Some, length, slice_get}
use Rattle.object_lock.specs.SeatViews.{SeatView, TableView}
use Rattle.object_moves.specs.Ways.{did_of}
use Rattle.evacuator.specs.Rounds.{HasMadeRounds}
use Rattle.fetcher.specs.Serving.{HasServed}
use Rattle.executor.specs.Movers.{IsOf, MoverView}
use Rattle.executor.specs.declared.movers.Mover.{Mover}
use Rattle.executor.specs.declared.movers.Mover.TheVariants.{Evacuates, Fetches}

-- all that was done at the seat are the mover's rounds, or what it did with hints
abbrev pub IsGivenBack : {W C : Type 0} → Type 0 → Mover W C → SeatView W C → Type 0
IsGivenBack reliable (Evacuates m) x = IsOf m x × HasMadeRounds reliable m.table.sizes m.mover (did_of x)
IsGivenBack reliable (Fetches m) x = IsOf m x × HasServed reliable m.table.sizes m.mover (did_of x)

-- each mover gave back its seat, in their order
pub record AreGivenBack {W C : Type 0} (reliable : Type 0) (movers : List (Mover W C)) (seats : List (SeatView W C)) : Type 0 where
  pub count : length seats ≡ length movers
  pub each : (i : ℕ) (m : Mover W C) (x : SeatView W C) → slice_get movers i ≡ Some m → slice_get seats i ≡ Some x → IsGivenBack reliable m x

-- a mover of the table whose number there is this
abbrev pub numbered : TableView → ℕ → MoverView
numbered t n = record { table = t; mover = n }

-- the first of these movers evacuate, so many, and the others fetch; their numbers at the table follow one another
pub record AreMovers {W C : Type 0} (t : TableView) (first evacuators count : ℕ) (movers : List (Mover W C)) : Type 0 where
  pub many : length movers ≡ count
  pub evacuate : (i : ℕ) → i < count → i < evacuators → slice_get movers i ≡ Some (Evacuates (numbered t (first + i)))
  pub fetch : (i : ℕ) → i < count → evacuators ≤ i → slice_get movers i ≡ Some (Fetches (numbered t (first + i)))
