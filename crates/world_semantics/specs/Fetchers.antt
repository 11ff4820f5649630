-- Movers that bring objects in before anybody waits for them.
use Rattle.std.specs.Prelude.{ℕ, List}
use Rattle.world_semantics.specs.Programs as programs
use Rattle.world_semantics.specs.Programs.{Mode}

-- How far a fetcher is with an object that it has begun to bring in. A program that brings one in has modes of these names; unlike it, a fetcher
-- moves no other object out
pub data Fetching : Type 0 where
  -- it seeks a frame, and gives the object up where it gets none
  Bringing : (object : ℕ) → Fetching
  -- it has claimed the frame, and is to read the store
  Reading : (object frame : ℕ) → Fetching
  -- it fills the frame with these words, and has filled so many cells
  Filling : (object frame : ℕ) → (words : List ℕ) → (cells : ℕ) → Fetching
  -- its store failed, and it gives up the frame that it claimed; the object that it brings in
  Releasing : (object frame : ℕ) → Fetching
  Retreating : (object : ℕ) → Fetching

-- the mode of a program that is so far with the object that it brings in
abbrev pub as_mode : Fetching → Mode
as_mode (Bringing o) = programs.Bringing o
as_mode (Reading o f) = programs.Reading o f
as_mode (Filling o f words k) = programs.Filling o f words k
as_mode (Releasing o f) = programs.Releasing o f
as_mode (Retreating o) = programs.Retreating o
