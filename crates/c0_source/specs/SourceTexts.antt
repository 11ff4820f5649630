-- Which bytes are the text of a program.
use Rattle.std.specs.Prelude.{◌≡◌, ℕ, ◌+◌, ◌<◌, ◌≤◌, List, length, slice_index, All}
use Rattle.c0_source.specs.declared.fault.FaultKind.{FaultKind}
use Rattle.c0_source.specs.declared.fault.FaultKind.TheVariants as f
use Rattle.c0_source.specs.declared.fault.Fault.{Fault}

-- all bytes are below 128, and there are at most 2^20
pub record IsSourceText (bytes : List ℕ) : Type 0 where
  pub ascii : All (λ b. b < 128) bytes
  pub short : length bytes ≤ 1048576

-- the first byte over 127 stands at `at`
pub record FirstBadByte (bytes : List ℕ) (at : ℕ) : Type 0 where
  pub within : at < length bytes
  pub bad : 128 ≤ slice_index bytes at
  pub first : (i : ℕ) → i < at → slice_index bytes i < 128

-- the text has only bytes below 128, and too many of them; the fault stands at the first that is too many
pub record IsTooLong (bytes : List ℕ) (at : ℕ) : Type 0 where
  pub ascii : All (λ b. b < 128) bytes
  pub long : 1048576 < length bytes
  pub place : at ≡ 1048576

-- why a text is refused, by the kind of its fault and where that stands
abbrev pub RefusedAt : FaultKind → List ℕ → ℕ → Type 0
RefusedAt f.BadByte bytes at = FirstBadByte bytes at
RefusedAt f.TooLarge bytes at = IsTooLong bytes at
RefusedAt f.OutOfMemory bytes at = IsSourceText bytes × (at ≡ 0)
RefusedAt _ bytes at = ⊥

-- how long the span of a refusal is: want of memory has no place
abbrev pub refusal_end : FaultKind → ℕ → ℕ
refusal_end f.OutOfMemory at = 0
refusal_end _ at = at + 1

-- the text is refused with this fault, at one byte
pub record IsRefused (bytes : List ℕ) (fault : Fault) : Type 0 where
  pub cause : RefusedAt fault.kind bytes fault.span.start
  pub end : fault.span.end ≡ refusal_end fault.kind fault.span.start
