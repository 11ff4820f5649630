-- Characters by their bytes.
use Rattle.std.specs.Prelude.{ℕ, not, ◌&&◌, ◌==◌, if◌then◌else◌, List, ◌∷◌, Option, Some, None}
use Rattle.c0_source.specs.Bytes.{escape, is_printable}

-- the code of a character with a `\`, from its opening quote on
abbrev pub escaped_value : List ℕ → Option ℕ
escaped_value (a ∷ s ∷ b ∷ q ∷ bs) = if q == 39 then (if b == 48 then Some 0 else escape b) else None
escaped_value _ = None

-- the code of a character without a `\`, from its opening quote on
abbrev pub plain_value : List ℕ → Option ℕ
plain_value (a ∷ b ∷ q ∷ bs) = if q == 39 && is_printable b && not (b == 39) then Some b else None
plain_value _ = None
