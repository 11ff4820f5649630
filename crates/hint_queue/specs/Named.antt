-- The rule of the queue of hints.
use Rattle.std.specs.Prelude.{◌≡◌, ◌⊎◌, ℕ, ◌<◌, List, [], ◌∷◌, Option, Some, None, All}
use mathlib.Core.Option.{some}
use lib.ListN.{get_elem?}
use Rattle.hint_queue.specs.declared.rule.KnowsObjects.{KnowsObjects}

-- what a pass knows: each hint is below this number
abbrev pub knows : ℕ → KnowsObjects
knows n = record { objects = Some n }

-- the first pass, before the number is known
abbrev pub unknown : KnowsObjects
unknown = record { objects = None }

-- the number, or 0 where it is not told yet
abbrev pub number_of : Option ℕ → ℕ
number_of None = 0
number_of (Some n) = n

-- the number that a pass knows, or 0
abbrev pub number : KnowsObjects → ℕ
number v = number_of v.objects

-- all passes know this number
abbrev pub AllKnow : ℕ → List KnowsObjects → Type 0
AllKnow n views = (pass : ℕ) (v : KnowsObjects) → get_elem? views pass ≡ some v → v ≡ knows n

-- there is one pass, and the queue is empty; or all passes know one number, and each hint is below it
abbrev pub AllNamed : List ℕ → List KnowsObjects → Type 0
AllNamed items views = ((views ≡ unknown ∷ []) × (items ≡ [])) ⊎ ((n : ℕ) × AllKnow n views × All (λ x. x < n) items)
