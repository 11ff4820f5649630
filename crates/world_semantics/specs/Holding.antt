-- What the scopes of a program hold, and what the words count of it.
use Rattle.std.specs.Prelude.{◌≡◌, ℕ, ◌+◌, ◌*◌, ◌<◌, ◌≤◌, ◌==◌, cond, Option, Some, None, List, [], ◌∷◌}
use Rattle.world_semantics.specs.Programs.{Hold, hold_at}
use Rattle.world_semantics.specs.Worlds.{Sizes, World, share}

-- one where the hold is of the object o
abbrev pub one : ℕ → Option Hold → ℕ
one o None = 0
one o (Some h) = cond (h.object == o) 1 0

-- how many of these scopes hold the object o
abbrev pub count_of : ℕ → List (Option Hold) → ℕ
count_of o [] = 0
count_of o (h ∷ hs) = one o h + count_of o hs

-- the object is in the share of program k
abbrev pub IsOwn : Sizes → ℕ → ℕ → Type 0
IsOwn z k o = (k * share z ≤ o) × (o < k * share z + share z)

-- The scopes of program k hold objects of its share, and the word of each object of its share counts the scopes that hold it
pub record HoldsFit (z : Sizes) (w : World) (k : ℕ) : Type 0 where
  pub own : (s : ℕ) (h : Hold) → hold_at (w.programs k).holds s ≡ Some h → IsOwn z k h.object
  pub counted : (o : ℕ) → IsOwn z k o → (w.lock.word o).count ≡ count_of o (w.programs k).holds
