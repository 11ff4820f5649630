-- The place of a name in a list.
use Rattle.std.specs.Prelude.{ℕ, suc, true, false, List, [], ◌∷◌, Option, Some, None, bytes_eq}
use Rattle.c0_rules.specs.Types.{Name}

-- the number of the first of these names that is this one, counted from k
abbrev pub place_in : ℕ → List Name → Name → Option ℕ
place_in k [] n = None
place_in k (m ∷ names) n = elim (bytes_eq n m) [ true ↦ Some k | false ↦ place_in (suc k) names n ]
