-- What a search for a frame tells.
use Rattle.std.specs.Prelude.{ℕ, Option, Some, None}
use Rattle.region.specs.declared.found.Found.{Found}
use Rattle.region.specs.declared.found.Found.TheVariants as F

-- the frame that was claimed, if one was
abbrev pub frame_found : Found → Option ℕ
frame_found (F.Claimed f) = Some f
frame_found F.None = None
