-- Lines of a text.
use Rattle.std.specs.Prelude.{◌≡◌, ◌≢◌, ℕ, ◌-◌, ◌<◌, ◌≤◌, List, slice_index}

-- The line of the byte at `at` begins at `start`: behind a newline or at the text's start, with no newline between.
pub record BeginsLine (bytes : List ℕ) (at start : ℕ) : Type 0 where
  pub before : start ≤ at
  pub behind : 0 < start → slice_index bytes (start - 1) ≡ 10
  pub same : (i : ℕ) → start ≤ i → i < at → slice_index bytes i ≢ 10
