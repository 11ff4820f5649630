-- What is promised of all programs at once that were run on threads: from what `run_all` answers, and of what the command `run` shows.
use Rattle.std.specs.Prelude.{◌≡◌, ℕ, ◌<◌, ◌/◌, List, Some, length, slice_get}
use Rattle.clap.specs.Words.{Text}
use Rattle.code_form.specs.Form.{Image}
use Rattle.command_files.specs.FileTexts.{Known}
use Rattle.command_line.specs.Shell.{Started}
use Rattle.object_lock.specs.Seats.{Sizes}
use Rattle.program_run.specs.Acting.{share_by}
use Rattle.program_run.specs.Executed.{IsFinishedOver}
use Rattle.program_run.specs.declared.run.Finished.{Finished}
use Rattle.region.specs.Admission.{image_at}
use Rattle.executor.specs.Together.{HasRunTogether}
use Rattle.session_events.specs.OneWorld.{world_sizes}
use Rattle.session_events.specs.Together.{IsEndedAt, IsTold}
use Rattle.streams.specs.Streams.{Writes}
use Rattle.world_semantics.specs.Programs.{Program}
use Rattle.c0far.specs.Runs.{HasRunAsOne, IsReliableIn, world_over}
use Rattle.c0far_headline.specs.Tables.{IsPromisedRun, IsShownRun}

-- Whatever all programs of a region did together on threads, as `run_all` tells it, over a store that is honest and reliable: all of it is one run of one world, and each program is then where its end is told of, as promised of the text
-- that its image was compiled to. Left out is a run in which memory was refused for the text of an error
abbrev pub HeadlineOfThreads : {S : Type 0} → (S → ℕ → List ℕ → Type 0) → (S → Type 0) → Type 0 → Type 0 → Type 0
HeadlineOfThreads {S} kept there honest reliable = (z : Sizes) (objects programs evacuators fetchers : ℕ) (images : ℕ → Image) (ends : List Finished) → 0 < z.cells → honest → reliable → objects ≡ z.objects / programs → length ends ≡ programs
    → ((k : ℕ) (e : Finished) → slice_get ends k ≡ Some e → IsFinishedOver reliable (share_by k objects) (images k) e) → ((k : ℕ) (e : Finished) → slice_get ends k ≡ Some e → IsTold (images k) e)
    → (run : HasRunTogether kept there honest reliable z objects programs evacuators fetchers images ends)
    → (at : ℕ → Program) × IsShownRun (world_sizes z programs evacuators fetchers) images run.table.words at × ((k : ℕ) (e : Finished) → slice_get ends k ≡ Some e → IsEndedAt (images k) e (at k))

-- The headline of what the command `run` shows of all programs at once, over the store in memory, where no call is to fail, and memory was refused for no text of an error: what all of them did with their evacuators and fetchers,
-- on whichever threads and in whichever order, is one run of one world. Each program is then where its end is shown, as promised of the text that its image was compiled to
abbrev pub HeadlineOfRunsTogether : Type 0
HeadlineOfRunsTogether = (asked : Started) (files : List Text) (held : Text → Known) (out err : Writes) (result : ℕ) → (ran : HasRunAsOne (Unit {0}) asked files held out err result) → IsReliableIn asked.memory
    → ((k : ℕ) (e : Finished) → slice_get ran.0.finished k ≡ Some e → IsTold (image_at ran.0.programs k) e)
    → (at : ℕ → Program) × IsPromisedRun (world_over asked.memory asked.evacuators asked.fetchers ran.0.programs) (image_at ran.0.programs) at × ((k : ℕ) (e : Finished) → slice_get ran.0.finished k ≡ Some e → IsEndedAt (image_at ran.0.programs k) e (at k))
