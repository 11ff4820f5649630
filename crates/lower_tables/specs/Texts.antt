-- The numbers of texts by their bytes.
use Rattle.std.specs.Prelude.{ℕ, suc, true, false, bytes_eq, List, [], ◌∷◌, unwrap_or, Option, Some, None}

-- the number of the first of these texts that has these bytes, counted from k
abbrev pub number_from : ℕ → List (List ℕ) → List ℕ → Option ℕ
number_from k [] bytes = None
number_from k (text ∷ rest) bytes = elim (bytes_eq bytes text) [ true ↦ Some k | false ↦ number_from (suc k) rest bytes ]

-- The number that code has for a text of these bytes: that of the first one, and 0, which is the empty text, where none has them. So code does not
-- depend on how a tree numbers its texts.
abbrev pub number_among : List (List ℕ) → List ℕ → ℕ
number_among texts bytes = unwrap_or (number_from 1 texts bytes) 0
