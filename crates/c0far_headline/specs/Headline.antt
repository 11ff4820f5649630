-- What is promised of programs that run in a world beside others, whatever the events.
use Rattle.std.specs.Prelude.{◌≡◌, ℕ, ◌<◌, ◌≤◌, Bool, List, None}
use Rattle.cells.specs.declared.ending.Want.{Want}
use Rattle.cells.specs.Stops.{Stop}
use Rattle.cells.specs.Outcomes.{IsPrefix, stops_with}
use Rattle.c0_front.specs.Texts.{IsTypedAs}
use Rattle.c0_typed.specs.Trees.{Program as Typed}
use Rattle.c0_typed.specs.Meaning.{mean}
use Rattle.code_form.specs.Form.{Image}
use Rattle.code_form.specs.Effects.{code_run}
use Rattle.code_form.specs.declared.allocation.Allocation.{Allocation}
use Rattle.code_form.specs.Code.{Stopped, code, output_of, stop_of}
use Rattle.world_semantics.specs.Causes.{HasCause}
use Rattle.world_semantics.specs.Programs.{Program, Wanted}
use Rattle.world_semantics.specs.Worlds.{Event, Follows, Sizes, World, start}
use Rattle.c0_image.specs.Compiled.{IsCompiled}

-- the meaning ends so: from some number of turns on, each number gives this output and this stop
abbrev pub EndsSo : Typed → Bool → Stop → List ℕ → Type 0
EndsSo P checks s o = (n : ℕ) × ((m : ℕ) → n ≤ m → mean P checks m ≡ stops_with s o)

-- a list of events that leads from the beginning of these images to the world v, over an honest store
abbrev pub IsRun : Sizes → (ℕ → Image) → List Event → World → Type 0
IsRun z images events v = (0 < z.cells) × Follows (Unit {0}) z images (start images) events v

-- What is promised of a program, wherever it is, that means P
pub record Promised (P : Typed) (checks : Bool) (p : Program) (HasCauseOf : Want → Type 0) : Type 0 where
  -- what it has printed is a beginning of the meaning's output, with some number of turns and every larger one
  pub beginning : (n : ℕ) × ((m : ℕ) → n ≤ m → IsPrefix (output_of p.core) (mean P checks m).output)
  -- where it has stopped the meaning ends, with this whole output and this stop
  pub stopped : (s : Stop) (al : List Allocation) (o : List ℕ) → p.core ≡ Stopped s al o → EndsSo P checks s o
  -- where it wants something the cause is among the events
  pub wanting : (want : Want) → p.mode ≡ Wanted want → HasCauseOf want

-- the code of the image is stopped so when this many instructions are completed, with this output, and not before
abbrev pub StopsAt : Image → ℕ → Stop → List ℕ → Type 0
StopsAt C j s o = ((i : ℕ) → i < j → stop_of (code_run (code C) i).0 ≡ None) × ((al : List Allocation) × ((code_run (code C) j).0 ≡ Stopped s al o))

-- Where the meaning ends, some number of completed instructions, at which the code of the text is stopped so, and before which it has not
-- stopped, leaves the program stopped so. The number is that of the text, its level, `checks` and the size of pieces: the same whatever image the text was compiled to, and in every run of
-- whatever world, beside whatever other programs.
abbrev pub Settles : (loops : Bool) → (text : List ℕ) → (checks : Bool) → (cells : ℕ) → Typed → Type 0
Settles loops text checks cells P = (s : Stop) (o : List ℕ) → EndsSo P checks s o
    → (j : ℕ) × ((D : Image) → IsCompiled loops text checks cells D
    → StopsAt D j s o
    × ((z : Sizes) (images : ℕ → Image) (events : List Event) (v : World) (k : ℕ) → IsRun z images events v → images k ≡ D
    → j ≤ (v.programs k).completed → (al : List Allocation) × ((v.programs k).core ≡ Stopped s al o)))

-- Of every text that is accepted, with `break` and `continue` in the language or not, the image that it was compiled to, and the program that it means: in every run of whatever world,
-- beside whatever other programs and evacuators, with pieces, frames and objects of whatever number, each program with that image is as promised,
-- and where the meaning ends it is settled, by a number of instructions that is the text's at its level and for the pieces that it was compiled for
abbrev pub Headline : Type 0
Headline = (loops : Bool) (text : List ℕ) (checks : Bool) (cells : ℕ) (C : Image) → IsCompiled loops text checks cells C → (meant : Typed) → IsTypedAs loops text meant
    → ((z : Sizes) (images : ℕ → Image) (events : List Event) (v : World) (k : ℕ) → IsRun z images events v → images k ≡ C
    → Promised meant checks (v.programs k) (λ want. HasCause (Unit {0}) z images k want (start images) events))
    × Settles loops text checks cells meant
