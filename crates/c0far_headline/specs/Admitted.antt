-- What is promised of programs that are admitted, whatever the events, and of the ends that a replay tells.
use Rattle.std.specs.Prelude.{◌≡◌, ℕ, ◌<◌, ◌≤◌, Bool, List, length, Some, slice_get}
use Rattle.cells.specs.declared.ending.Ended.{Ended}
use Rattle.cells.specs.declared.ending.Run.TheVariants as run
use Rattle.cells.specs.declared.ending.Want.{Want}
use Rattle.cells.specs.Outcomes.{IsPrefix}
use Rattle.cells.specs.Stops.{stop_of as stop_read}
use Rattle.cells.specs.declared.ending.Stop.{Stop}
use Rattle.c0_front.specs.Texts.{IsTypedAs}
use Rattle.c0_image.specs.Compiled.{IsCompiled}
use Rattle.c0_typed.specs.Meaning.{mean}
use Rattle.c0_typed.specs.Trees.{Program as Typed}
use Rattle.region.specs.Admission.{IsAdmitted, image_at}
use Rattle.schedule_replay.specs.Replayed.{IsReplayed}
use Rattle.scope_verifier.specs.declared.acceptance.Verified.{Verified}
use Rattle.world.specs.Opened.{sizes_of}
use Rattle.world_semantics.specs.Causes.{HasCause}
use Rattle.world_semantics.specs.Enough.{IsUnheld}
use Rattle.world_semantics.specs.Programs.{Bringing}
use Rattle.world_semantics.specs.Pieces.{piece_of}
use Rattle.world_semantics.specs.Worlds.{Event, Follows, Sizes, World, start}
use Rattle.c0far_headline.specs.Headline.{EndsSo, IsRun, Promised}

-- What is promised of the end of a program that means P
pub record PromisedEnd (P : Typed) (checks : Bool) (e : Ended) (HasCauseOf : Want → Type 0) : Type 0 where
  -- what it printed is a beginning of the meaning's output, with some number of turns and every larger one
  pub beginning : (n : ℕ) × ((m : ℕ) → n ≤ m → IsPrefix e.output.items (mean P checks m).output)
  -- where it stopped the meaning ends, with this whole output and this stop
  pub stopped : (x : Stop) → e.run ≡ run.Stopped x → EndsSo P checks (stop_read x) e.output.items
  -- where it wants something the cause is among the events
  pub wanting : (want : Want) → e.run ≡ run.Wanted want → HasCauseOf want

-- Of programs that `fits` or `admit` admitted, in every list of events of their world: where one seeks a frame, there is a frame that is free, or holds an object without holds
-- that is in no mover's hands, over any store; and over an honest store each whose image a text was compiled to is as promised of that text
abbrev pub AdmittedHeadline : Type 0
AdmittedHeadline = (programs : List Verified) (frames objects evacuators fetchers : ℕ) → IsAdmitted programs frames objects evacuators fetchers
    → (z : Sizes) → z ≡ sizes_of (length programs) frames objects evacuators fetchers (piece_of (image_at programs))
    → ((events : List Event) (v : World) (k o : ℕ) → Follows ⊥ z (image_at programs) (start (image_at programs)) events v → k < length programs → (v.programs k).mode ≡ Bringing o
    → (f : ℕ) × (f < frames) × IsUnheld z v.lock f)
    × ((events : List Event) (v : World) → IsRun z (image_at programs) events v
    → (loops : Bool) (text : List ℕ) (checks : Bool) (cells : ℕ) (meant : Typed) (k : ℕ) → IsCompiled loops text checks cells (image_at programs k) → IsTypedAs loops text meant
    → Promised meant checks (v.programs k) (λ want. HasCause (Unit {0}) z (image_at programs) k want (start (image_at programs)) events))

-- Of the ends that the replay of a schedule over an honest store, which may fail, told: each, of a program whose image a text was compiled to, is as promised of that text
abbrev pub ReplayedHeadline : Type 0
ReplayedHeadline = (programs : List Verified) (frames objects evacuators fetchers : ℕ) → IsAdmitted programs frames objects evacuators fetchers
    → (z : Sizes) → z ≡ sizes_of (length programs) frames objects evacuators fetchers (piece_of (image_at programs)) → (schedule : List ℕ) (ends : List Ended)
    → (told : IsReplayed (Unit {0}) ⊥ z (image_at programs) schedule ends) → (k : ℕ) (e : Ended) → slice_get ends k ≡ Some e
    → (loops : Bool) (text : List ℕ) (checks : Bool) (cells : ℕ) (meant : Typed) → IsCompiled loops text checks cells (image_at programs k) → IsTypedAs loops text meant
    → PromisedEnd meant checks e (λ want. HasCause (Unit {0}) z (image_at programs) k want (start (image_at programs)) told.events)
