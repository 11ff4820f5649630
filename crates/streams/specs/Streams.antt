-- What becomes of a stream that a command writes to.
use Rattle.std.specs.Prelude.{◌≡◌, ◌⊎◌, ℕ, ◌+◌, ◌%◌, ◌^◌, List, MatchResult, Option, Result}
use Rattle.std.specs.Io.KnownBytes.{Appends}

-- what a stream holds, where it tells, and how many writes to it have failed
pub record Held : Type 0 where
  pub contents : Option (List ℕ)
  pub failures : ℕ

-- a stream before and after
pub record Writes : Type 0 where
  pub before : Held
  pub after : Held

-- a stream as it was and as it is, by what it holds and by its failed writes
abbrev pub writes : {S : Type 0} → (S → Option (List ℕ)) → (S → ℕ) → S → S → Writes
writes contents failures old new = record { before = record { contents = contents old; failures = failures old }; after = record { contents = contents new; failures = failures new } }

-- no write failed
abbrev pub NoneFailed : Writes → Type 0
NoneFailed w = w.after.failures ≡ w.before.failures

-- just one write failed: they are counted modulo 2^64
abbrev pub OneFailed : Writes → Type 0
OneFailed w = w.after.failures ≡ (w.before.failures + 1) % 2 ^ 64

-- a write that answers so wrote these bytes, and no write failed; or one write failed
abbrev pub IsWritten : {T E : Type 0} → Writes → List ℕ → Result T E → Type 0
IsWritten w bytes answer = MatchResult answer (λ _. Appends w.before.contents w.after.contents bytes × NoneFailed w) (λ _. OneFailed w)

-- these bytes were written, no write failed, and the command answers so; or one write failed, and it answers 2
abbrev pub Says : Writes → List ℕ → ℕ → ℕ → Type 0
Says w bytes status result = ((result ≡ status) × Appends w.before.contents w.after.contents bytes × NoneFailed w) ⊎ ((result ≡ 2) × OneFailed w)

-- nothing was written, and no write failed
abbrev pub IsQuiet : Writes → Type 0
IsQuiet w = w.after ≡ w.before
