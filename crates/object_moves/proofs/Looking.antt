-- What a search for a free frame leaves.
use Rattle.std.proofs.Common.{◌≡◌, ℕ, Bool, true, false}
use Rattle.object_lock.specs.SeatViews.{SeatView}
use Rattle.object_lock.specs.Telling.{Claimed}

-- a frame that was not claimed left the seat as it was
pub not_claimed : {W C : Type 0} (f : ℕ) (s t : SeatView W C) (b : Bool) → b ≡ false → Claimed f s t b → t ≡ s
not_claimed f s t true e c = absurd (cc)
not_claimed f s t false e c = c
