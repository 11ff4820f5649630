-- What is promised of the ends that a run on threads answers, and where an end is settled.
use Rattle.std.specs.Prelude.{◌≡◌, ℕ, ◌≤◌, Bool, true, false, List, length, Some, slice_get}
use Rattle.cells.specs.declared.ending.Ended.{Ended}
use Rattle.cells.specs.declared.ending.Run.TheVariants as run
use Rattle.cells.specs.declared.ending.Stop.{Stop as StopRead}
use Rattle.cells.specs.Stops.{Stop, stop_of as stop_read}
use Rattle.c0_front.specs.Texts.{IsTypedAs}
use Rattle.c0_image.specs.Compiled.{IsCompiled}
use Rattle.c0_typed.specs.Trees.{Program as Typed}
use Rattle.code_form.specs.Code.{code}
use Rattle.code_form.specs.Effects.{code_run}
use Rattle.code_form.specs.Form.{Image, image_of}
use Rattle.executor.specs.Ends.{AreEnds}
use Rattle.program_run.specs.Executed.{WantsFor}
use Rattle.region.specs.Admission.{IsAdmitted, image_at}
use Rattle.schedule_replay.specs.Replayed.{IsReplayed}
use Rattle.scope_verifier.specs.declared.acceptance.Verified.{Verified}
use Rattle.world.specs.Opened.{sizes_of}
use Rattle.world_semantics.specs.Pieces.{piece_of}
use Rattle.world_semantics.specs.Worlds.{Sizes}
use Rattle.c0far_headline.specs.Admitted.{PromisedEnd}
use Rattle.c0far_headline.specs.Headline.{EndsSo, StopsAt}

-- a store that never fails, or one that may
abbrev pub NeverFails : Bool → Type 0
NeverFails true = Unit {0}
NeverFails false = ⊥

-- Of the ends that `run_all` answers of programs, over an honest store, which never fails or may fail: each, of a program whose image a text was compiled to, is as promised of that
-- text, and a want has its cause in the code's run
abbrev pub RunHeadline : Type 0
RunHeadline = (reliable : Bool) (objects : ℕ) (programs : List Verified) (ends : List Ended) → AreEnds (Unit {0}) (NeverFails reliable) objects programs ends
    → (k : ℕ) (v : Verified) (e : Ended) → slice_get programs k ≡ Some v → slice_get ends k ≡ Some e
    → (loops : Bool) (text : List ℕ) (checks : Bool) (cells : ℕ) (meant : Typed) → IsCompiled loops text checks cells (image_of v.image) → IsTypedAs loops text meant
    → PromisedEnd meant checks e (WantsFor (NeverFails reliable) objects (image_of v.image) (code_run (code (image_of v.image)) e.completed).0)

-- an end after this number of completed instructions or more is this stop, with this output
abbrev pub IsSettledBy : ℕ → Stop → List ℕ → Ended → Type 0
IsSettledBy j s o e = j ≤ e.completed → (x : StopRead) × (e.run ≡ run.Stopped x) × (stop_read x ≡ s) × (e.output.items ≡ o)

-- in each replay of programs that are admitted, over an honest store, each end of a program of this image is settled by this number
abbrev pub ReplaysSettle : Image → ℕ → Stop → List ℕ → Type 0
ReplaysSettle C j s o = (programs : List Verified) (frames objects evacuators fetchers : ℕ) → IsAdmitted programs frames objects evacuators fetchers
    → (z : Sizes) → z ≡ sizes_of (length programs) frames objects evacuators fetchers (piece_of (image_at programs)) → (schedule : List ℕ) (ends : List Ended)
    → IsReplayed (Unit {0}) ⊥ z (image_at programs) schedule ends → (k : ℕ) (e : Ended) → slice_get ends k ≡ Some e → image_at programs k ≡ C → IsSettledBy j s o e

-- in each run on threads, over an honest store, each end of a program of this image is settled by this number
abbrev pub RunsSettle : Image → ℕ → Stop → List ℕ → Type 0
RunsSettle C j s o = (reliable : Bool) (objects : ℕ) (programs : List Verified) (ends : List Ended) → AreEnds (Unit {0}) (NeverFails reliable) objects programs ends
    → (k : ℕ) (v : Verified) (e : Ended) → slice_get programs k ≡ Some v → slice_get ends k ≡ Some e → image_of v.image ≡ C → IsSettledBy j s o e

-- Where the meaning of a text ends, the number of completed instructions at which the code of its image is stopped so, and not before, settles each end of that image, in
-- every replay and in every run on threads, beside whatever other programs
abbrev pub EndsSettle : Type 0
EndsSettle = (loops : Bool) (text : List ℕ) (checks : Bool) (cells : ℕ) (meant : Typed) → IsTypedAs loops text meant → (s : Stop) (o : List ℕ) → EndsSo meant checks s o
    → (C : Image) → IsCompiled loops text checks cells C → (j : ℕ) × StopsAt C j s o × ReplaysSettle C j s o × RunsSettle C j s o
