-- Where the cells of a program's allocations lie. A piece is n cells; base is the program's first object, and an allocation takes
-- its objects behind those of the one before it. Allocations are lists of numbers of cells, the newest first.
use Rattle.std.specs.Prelude.{◌≡◌, ℕ, suc, ◌+◌, ◌-◌, ◌/◌, ◌%◌, ◌<◌, ◌≤◌, ◌==◌, cond, List, [], ◌∷◌, length}
use Rattle.code_form.specs.Effects.{Heap, with_cell, upd}
use Rattle.code_form.specs.Code.{cells_of}

-- how many pieces this many cells are
abbrev pub pieces : ℕ → ℕ → ℕ
pieces n cells = (cells + (n - 1)) / n

-- the object behind those of the allocations
abbrev pub next_object : ℕ → ℕ → List ℕ → ℕ
next_object n base [] = base
next_object n base (cells ∷ older) = next_object n base older + pieces n cells

-- the first object of allocation r
abbrev pub first_object : ℕ → ℕ → List ℕ → ℕ → ℕ
first_object n base [] r = base
first_object n base (cells ∷ older) r = cond (r == suc (length older)) (next_object n base older) (first_object n base older r)

-- the object of cell x of allocation r
abbrev pub object_at : ℕ → ℕ → List ℕ → ℕ → ℕ → ℕ
object_at n base cells r x = first_object n base cells r + x / n

-- each cell's object is one of the allocations', and two cells are apart: in two objects, or at two places of one
pub record Addresses (n base : ℕ) (cells : List ℕ) : Type 0 where
  pub inside : (r x : ℕ) → x < cells_of cells r → object_at n base cells r x < next_object n base cells
  pub apart : (r x q y : ℕ) → x < cells_of cells r → y < cells_of cells q → object_at n base cells r x ≡ object_at n base cells q y → x % n ≡ y % n → (r ≡ q) × (x ≡ y)

-- each cell of the heap is the latest store at its object and its place there; what isn't allocated yet, below limit, was never
-- stored
pub record SameHeap (n base limit : ℕ) (cells : List ℕ) (latest : ℕ → ℕ → ℕ) (heap : Heap) : Type 0 where
  pub cell : (r x : ℕ) → x < cells_of cells r → latest (object_at n base cells r x) (x % n) ≡ heap r x
  pub fresh : (o i : ℕ) → next_object n base cells ≤ o → o < limit → latest o i ≡ 0
  pub new : (r x : ℕ) → length cells < r → heap r x ≡ 0

-- cells have addresses
abbrev pub HaveAddresses : Type 0
HaveAddresses = (n base : ℕ) (cells : List ℕ) → 0 < n → Addresses n base cells

-- a store at a cell's address is a store into the heap
abbrev pub HeapStored : Type 0
HeapStored = (n base limit : ℕ) (cells : List ℕ) (latest : ℕ → ℕ → ℕ) (heap : Heap) (r x v : ℕ) → 0 < n → x < cells_of cells r → SameHeap n base limit cells latest heap
    → SameHeap n base limit cells (upd latest (object_at n base cells r x) (upd (latest (object_at n base cells r x)) (x % n) v)) (with_cell heap r x v)

-- a new allocation within the limit is as the heap has it
abbrev pub HeapAllocated : Type 0
HeapAllocated = (n base limit : ℕ) (cells : List ℕ) (latest : ℕ → ℕ → ℕ) (heap : Heap) (m : ℕ) → 0 < n → next_object n base (m ∷ cells) ≤ limit
    → SameHeap n base limit cells latest heap → SameHeap n base limit (m ∷ cells) latest heap
