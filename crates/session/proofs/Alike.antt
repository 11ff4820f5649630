-- A list whose values are all the same.
use Rattle.std.proofs.Common.{◌≡◌, ℕ, zero, suc, refl}
use Rattle.std.specs.Prelude.{replicate, slice_index_or}

pub at_all : {A : Type 0} (a : A) (n k : ℕ) → slice_index_or (replicate n a) k a ≡ a
at_all a zero k = refl
at_all a (suc n) zero = refl
at_all a (suc n) (suc k) = at_all a n k
