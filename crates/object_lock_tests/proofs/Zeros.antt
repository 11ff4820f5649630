-- The first of zeros are zeros.
use Rattle.std.proofs.Common.{◌≡◌, ℕ, zero, suc, take, refl}
use Rattle.std.specs.Prelude.{replicate}
use Rattle.pointer_word.specs.Hands.{listed}

pub zeros : (k n i : ℕ) → listed (take k (replicate n 0)) i ≡ 0
zeros zero n i = refl
zeros (suc k) zero i = refl
zeros (suc k) (suc n) zero = refl
zeros (suc k) (suc n) (suc i) = zeros k n i
