-- What files hold.
use Rattle.std.specs.Prelude.{◌≡◌, ℕ, List, Option, Some, None}

-- what a file holds, where it is known: Some None where there is no such file
abbrev pub Known : Type 0
Known = Option (Option (List ℕ))

-- the file has this text
abbrev pub HasText : Known → List ℕ → Type 0
HasText None text = Unit {0}
HasText (Some None) text = ⊥
HasText (Some (Some bytes)) text = text ≡ bytes

-- the file is not there
abbrev pub IsMissing : Known → Type 0
IsMissing None = Unit {0}
IsMissing (Some None) = Unit {0}
IsMissing (Some (Some bytes)) = ⊥
