-- A run of all programs of a region as what the seats of a world do.
use Rattle.std.specs.Prelude.{◌≡◌, ◌≢◌, ℕ, ◌/◌, List, Some, length, slice_get}
use Rattle.cells.specs.declared.ending.Run.TheVariants.{Wanted}
use Rattle.cells.specs.declared.ending.Want.{Want}
use Rattle.cells.specs.declared.ending.Want.TheVariants.{OutOfMemory}
use Rattle.code_form.specs.Code.{code, effect, output_of}
use Rattle.code_form.specs.Effects.{code_run}
use Rattle.code_form.specs.Form.{Image}
use Rattle.code_form.specs.Touches.{touch_of}
use Rattle.code_form.specs.declared.touch.Touch.TheVariants.{Ends}
use Rattle.object_lock.specs.Seats.{Sizes}
use Rattle.executor.specs.Together.{HasRunTogether}
use Rattle.program_run.specs.Acting.{share_by}
use Rattle.program_run.specs.Executed.{IsFinishedOver}
use Rattle.program_run.specs.declared.run.Finished.{Finished}
use Rattle.world_semantics.specs.Programs as worlds
use Rattle.world_semantics.specs.Programs.{Program}
use Rattle.session_events.specs.Laws.{IsAtEnd}
use Rattle.session_events.specs.OneWorld.{AreSeatsOf}

-- the end is not a want of memory for the text of an error, with which the code would stop
abbrev pub IsTold : Image → Finished → Type 0
IsTold C e = e.end.run ≡ Wanted OutOfMemory → touch_of (effect C (code_run (code C) e.end.completed).0) ≢ Ends

-- the program of this image is in a world where this end is told of: as many instructions completed, this output, and it has stopped so or wants this
pub record IsEndedAt (C : Image) (e : Finished) (q : Program) : Type 0 where
  pub completed : q.completed ≡ e.end.completed
  pub printed : output_of q.core ≡ e.end.output.items
  pub ended : IsAtEnd C q e.end.run
  -- a want of memory, too, is then the program's own
  pub wants : (w : Want) → e.end.run ≡ Wanted w → q.mode ≡ worlds.Wanted w

-- Where all programs have run together over a store that is honest and reliable, each to the end of its code's run, and no end is a want of memory for the text of an error, the seats of that state of the table are those of programs, evacuators and fetchers, and each
-- program is where its end is told of
abbrev pub RunsAreSeats : {S : Type 0} → (S → ℕ → List ℕ → Type 0) → (S → Type 0) → Type 0 → Type 0 → Type 0
RunsAreSeats {S} kept there honest reliable = (z : Sizes) (objects programs evacuators fetchers : ℕ) (images : ℕ → Image) (ends : List Finished) → honest → reliable → objects ≡ z.objects / programs → length ends ≡ programs
    → ((k : ℕ) (e : Finished) → slice_get ends k ≡ Some e → IsFinishedOver reliable (share_by k objects) (images k) e) → ((k : ℕ) (e : Finished) → slice_get ends k ≡ Some e → IsTold (images k) e)
    → (run : HasRunTogether kept there honest reliable z objects programs evacuators fetchers images ends)
    → (at : ℕ → Program) × AreSeatsOf honest reliable z programs evacuators fetchers images run.table.views at × ((k : ℕ) (e : Finished) → slice_get ends k ≡ Some e → IsEndedAt (images k) e (at k))
