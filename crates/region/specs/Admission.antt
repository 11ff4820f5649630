-- Which programs are admitted to a system of so many frames, objects, evacuators and fetchers.
use Rattle.std.specs.Prelude.{◌≡◌, ◌⊎◌, ℕ, ◌+◌, ◌<◌, ◌≤◌, List, [], length, Option, Some, None, slice_get}
use Rattle.code_form.specs.Form.{Image, image_of}
use Rattle.object_lock.specs.Fresh.{IsWithinLimits}
use Rattle.scope_verifier.specs.declared.acceptance.Verified.{Verified}
use Rattle.world_semantics.specs.Enough.{scopes_below}
use Rattle.world_semantics.specs.Pieces.{HaveOnePiece, piece_of}
use Rattle.region.specs.declared.fault.AdmitFault.{AdmitFault}
use Rattle.region.specs.declared.fault.AdmitFault.TheVariants as f

-- the image of a program, and one without functions where there is no program
abbrev pub image_by : Option Verified → Image
image_by None = record { piece = 64; head = record { texts = []; layouts = [] }; functions = [] }
image_by (Some v) = image_of v.image

-- the image of program k
abbrev pub image_at : List Verified → ℕ → Image
image_at programs k = image_by (slice_get programs k)

-- program k is the first whose pieces have another size than those of program 0
abbrev pub DiffersFirst : List Verified → ℕ → Type 0
DiffersFirst programs k = (k < length programs) × ((image_at programs k).piece ≡ piece_of (image_at programs) → ⊥) × ((i : ℕ) → i < k → (image_at programs i).piece ≡ piece_of (image_at programs))

-- how many frames these programs may need at once: one for each scope that a program may have open, and one for each evacuator and each fetcher
abbrev pub needed : List Verified → ℕ → ℕ → ℕ
needed programs evacuators fetchers = scopes_below (image_at programs) (length programs) + evacuators + fetchers

-- how many workers a system may have, and how many instructions of one program a worker may run at once
abbrev pub IsWithinWork : ℕ → ℕ → Type 0
IsWithinWork workers quantum = (0 < workers) × (workers ≤ 64) × (0 < quantum) × (quantum ≤ 1000000)

-- in what follows there are so many frames, objects, evacuators and fetchers
module _ (programs : List Verified) (frames objects evacuators fetchers : ℕ) where
  -- each number is within its limit, the frames suffice, and pieces have one size
  abbrev pub IsAdmitted : Type 0
  IsAdmitted = IsWithinLimits (length programs) frames objects evacuators fetchers × (needed programs evacuators fetchers ≤ frames) × HaveOnePiece (image_at programs) (length programs)

  -- Why they are not admitted to a system of so many workers that run so many instructions at once: a number is beyond its limit; or else pieces have other
  -- sizes, and the first program is told of which that is so; or else the frames are too few, and both numbers are told. Memory is no cause
  abbrev pub IsRefused : ℕ → ℕ → AdmitFault → Type 0
  IsRefused workers quantum f.TooMany = IsWithinLimits (length programs) frames objects evacuators fetchers → IsWithinWork workers quantum → ⊥
  IsRefused workers quantum (f.TooSmall need have) =
      IsWithinLimits (length programs) frames objects evacuators fetchers × IsWithinWork workers quantum × HaveOnePiece (image_at programs) (length programs)
      × (need ≡ needed programs evacuators fetchers) × (have ≡ frames) × (frames < needed programs evacuators fetchers)
  IsRefused workers quantum (f.PieceDiffers program) =
      IsWithinLimits (length programs) frames objects evacuators fetchers × IsWithinWork workers quantum × DiffersFirst programs program
  IsRefused workers quantum f.OutOfMemory = ⊥

  -- Why no system of these numbers is made of them: they are not admitted, for this cause; or they are, and memory was wanted
  abbrev pub IsDenied : ℕ → ℕ → AdmitFault → Type 0
  IsDenied workers quantum fault = ((fault ≡ f.OutOfMemory) × IsAdmitted × IsWithinWork workers quantum) ⊎ IsRefused workers quantum fault
