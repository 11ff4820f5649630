-- Texts that differ.
use Rattle.std.proofs.Common.{◌≡◌, ◌≢◌, ℕ, Bool, true, false, List, refl}
use Rattle.std.specs.Bool.{Decides}
use Rattle.std.specs.Str.{bytes_eq}
use Rattle.std.proofs.lemmas.Slice.Eq.{bytes_eq-Decides}

pub unlike : (xs ys : List ℕ) → xs ≢ ys → bytes_eq xs ys ≡ false
unlike xs ys other = go (bytes_eq xs ys) (bytes_eq-Decides xs ys)
  where
    go : (b : Bool) → Decides b (xs ≡ ys) → b ≡ false
    go true same = absurd (other (same.0 refl))
    go false not = refl
