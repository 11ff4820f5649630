-- What it means that an image does what a program means.
use Rattle.std.specs.Prelude.{◌≡◌, ◌≢◌, ℕ, List, Bool, Some}
use Rattle.cells.specs.Stops.{Stop}
use Rattle.cells.specs.Outcomes.{IsPrefix, stops_with}
use Rattle.c0_typed.specs.Trees.{Program}
use Rattle.c0_typed.specs.Meaning.{mean}
use Rattle.code_form.specs.Form.{Image}
use Rattle.code_form.specs.Effects.{code_run}
use Rattle.code_form.specs.declared.allocation.Allocation.{Allocation}
use Rattle.code_form.specs.Code.{Stopped, Stuck, output_of, code}

-- The image and the program's bounded meaning agree both ways, and the image is never stuck
pub record Behaves (P : Program) (checks : Bool) (C : Image) : Type 0 where
  -- what the code has printed the meaning prints within some turns; where the code has stopped, so has the meaning, alike
  pub runs : (k : ℕ) → (n : ℕ) × IsPrefix (output_of (code_run (code C) k).0) (mean P checks n).output
      × ((s : Stop) (al : List Allocation) (o : List ℕ) → (code_run (code C) k).0 ≡ Stopped s al o → mean P checks n ≡ stops_with s o)
  -- and the other way
  pub means : (n : ℕ) → (k : ℕ) × IsPrefix (mean P checks n).output (output_of (code_run (code C) k).0)
      × ((s : Stop) → (mean P checks n).stop ≡ Some s → (al : List Allocation) × ((code_run (code C) k).0 ≡ Stopped s al (mean P checks n).output))
  -- whatever the number of instructions
  pub never_stuck : (k : ℕ) (al : List Allocation) (o : List ℕ) → (code_run (code C) k).0 ≢ Stuck al o
