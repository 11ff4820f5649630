-- What an honest store reads, and what a berth keeps for an object.
use Rattle.std.specs.Prelude.{◌≡◌, ◌≢◌, ℕ, ◌+◌, ◌<◌, ◌==◌, cond, ◌⊎◌, List, [], ◌∷◌, length, take, Option, Some, slice_index_or}
use Rattle.remote_store.specs.declared.port.Refusal.{Refusal}
use Rattle.remote_store.specs.declared.port.Refusal.TheVariants as R

-- what an honest store reads of a cell whose last write put these words: just them, or a header of three words that differs
abbrev pub Reads : List ℕ → List ℕ → Type 0
Reads ws found = (found ≡ ws) ⊎ (take 3 found ≢ take 3 ws)

-- A berth of the object o at this version, in whose cell the store holds this, keeps ws, the cells of a piece of n: zeros where nothing
-- was put yet, else the words of the last put behind their header
abbrev pub Keeps : ℕ → ℕ → Option (List ℕ) → ℕ → List ℕ → Type 0
Keeps n version held o ws = ((version ≡ 0) × ((i : ℕ) → i < n → slice_index_or ws i 0 ≡ 0)) ⊎ ((0 < version) × (length ws ≡ n) × (held ≡ Some (o ∷ version ∷ n ∷ ws)))

-- the version after this one: versions begin at 0, and after the greatest comes 1
abbrev pub next_version : ℕ → ℕ
next_version v = cond (v == 18446744073709551615) 1 (v + 1)

-- a get took the words of the object o at this version, the cells of a piece of n: a row that was read has their header, and they follow it
abbrev pub Took : ℕ → (List ℕ → Type 0) → ℕ → ℕ → List ℕ → Type 0
Took n gave version o ws = (row : List ℕ) × gave row × (row ≡ o ∷ version ∷ n ∷ ws)

-- why a get of the object o at this version, of a piece of n cells, was refused: a read failed, or a row that was read has another header
abbrev pub RefusedFor : ℕ → Type 0 → (List ℕ → Type 0) → ℕ → ℕ → Refusal → Type 0
RefusedFor n failed gave version o R.Failed = failed
RefusedFor n failed gave version o R.Wrong = (row : List ℕ) × gave row × (take 3 row ≢ o ∷ version ∷ n ∷ [])
