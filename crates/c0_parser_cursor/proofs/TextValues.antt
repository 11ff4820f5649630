-- The value of a text, byte by byte.
use Rattle.std.proofs.Common.{ℕ, List, ◌++◌, Option}
use Rattle.std.specs.Prelude.{option_map}

-- a value, with these bytes before it
abbrev pub behind : List ℕ → Option (List ℕ) → Option (List ℕ)
behind front value = option_map (λ bs. front ++ bs) value
