-- What it means that an image does what scoped code means.
use Rattle.std.specs.Prelude.{◌≡◌, ◌≢◌, ℕ, false, Some, None}
use Rattle.cells.specs.Outcomes.{KeepsEnd, Meant}
use Rattle.code_form.specs.Form.{Image}
use Rattle.code_form.specs.Effects.{code_run}
use Rattle.code_form.specs.Code.{IsStuck, code, output_of, stop_of}
use Rattle.middle_form.specs.Scoped.{Program}
use Rattle.middle_form.specs.ScopedMeaning.{scoped_means}

-- no run of the scoped code is stuck
abbrev pub IsSafe : Program → Type 0
IsSafe P = (n : ℕ) → scoped_means P n ≢ None

-- what a run of the image has come to after k instructions
abbrev pub ran : Image → ℕ → Meant
ran C k = record { stop = stop_of (code_run (code C) k).0; output = output_of (code_run (code C) k).0 }

-- The image and the bounded meaning of scoped code agree both ways, and the image is never stuck
pub record Keeps (P : Program) (C : Image) : Type 0 where
  -- what the image has printed is a beginning of what is meant within some turns; where it has stopped, the meaning has, with the same output
  pub runs : (k : ℕ) → (n : ℕ) × (m : Meant) × (scoped_means P n ≡ Some m) × KeepsEnd (ran C k) m
  -- and the other way
  pub follows : (n : ℕ) (m : Meant) → scoped_means P n ≡ Some m → (k : ℕ) × KeepsEnd m (ran C k)
  -- whatever the number of instructions
  pub never_stuck : (k : ℕ) → IsStuck (code_run (code C) k).0 ≡ false
