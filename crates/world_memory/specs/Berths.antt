-- The berths of a world's objects.
use Rattle.std.specs.Prelude.{◌≡◌, ℕ, List, Some, slice_get}
use Rattle.remote_store.specs.declared.berth.Berth.{Berth}

-- the berth of each object, by its number, and the cells of a piece
pub record Berths (C : Type 0) : Type 0 where
  pub items : List (Berth C)
  pub cells : ℕ

-- the store cell of each berth holds rows of so many words
abbrev pub DoFit : {C : Type 0} → (C → ℕ → Type 0) → List (Berth C) → ℕ → Type 0
DoFit {C} fits berths n = (k : ℕ) (b : Berth C) → slice_get berths k ≡ Some b → fits b.cell n
