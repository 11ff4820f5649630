-- What `run --live` does.
use Rattle.std.specs.Prelude.{◌≡◌, ◌⊎◌, ℕ, List, [], ◌∷◌, ◌++◌, Option, length}
use Rattle.std.specs.Io.KnownBytes.{Appends}
use Rattle.cells.specs.declared.ending.Ended.{Ended}
use Rattle.clap.specs.Words.{Text}
use Rattle.command_line.specs.Shell.{Memory, Started}
use Rattle.command_line.specs.declared.words.RunOptions.{RunOptions}
use Rattle.live_run.specs.declared.live.LiveError.{LiveError}
use Rattle.live_run.specs.declared.live.LiveError.TheVariants as live
use Rattle.program_run.specs.declared.run.Finished.{Finished}
use Rattle.region.specs.Admission.{IsAdmitted, IsRefused, IsWithinWork}
use Rattle.region.specs.declared.fault.AdmitFault.TheVariants as admit
use Rattle.scope_verifier.specs.declared.acceptance.Verified.{Verified}
use Rattle.streams.specs.Streams.{IsQuiet, NoneFailed, OneFailed, Writes}
use Rattle.c0far.specs.FileCode.{AreCodes}
use Rattle.command_files.specs.FileTexts.{Known}
use Rattle.c0far.specs.NoCode.{LacksCode, LacksMemory}
use Rattle.c0far.specs.Runs.{HasRun, IsHonestIn, IsNotRun, RanOver}
use Rattle.command_messages.specs.Shown.{shown_rest}
use Rattle.command_messages.specs.Statuses.{run_status}
use Rattle.c0far.specs.Places.{TellsBeside}
use Rattle.command_messages.specs.Wants.{share_of}

-- A program ran to this end over this memory, and something was written while it ran: over an honest store just its output
pub record RanLive (honest : Type 0) (memory : Memory) (programs : List Verified) (out : Writes) (finished : Finished) : Type 0 where
  pub executed : RanOver honest memory programs (finished ∷ [])
  pub printed : List ℕ
  pub whole : IsHonestIn honest memory.store → printed ≡ finished.end.output.items
  pub written : Appends out.before.contents out.after.contents printed
  pub sound : NoneFailed out

-- why a program of such a run is not seen to its end, where it is not told that one for which memory was wanted is admitted: it is not run, and nothing is written; or one write failed
abbrev pub IsBroken : RunOptions → List Verified → Writes → LiveError → Type 0
IsBroken asked programs out (live.NotRun fault) =
    ((fault ≡ admit.OutOfMemory) ⊎ IsRefused programs asked.memory.frames asked.memory.objects asked.evacuators asked.fetchers asked.work.workers asked.work.quantum fault) × IsQuiet out
IsBroken asked programs out live.Unwritten = OneFailed out

-- It was shown what a program printed that ran to this end over this memory, as it came, and how it ended: over an honest store the same bytes as of a run that
-- shows them at its end
pub record IsShownLive (honest : Type 0) (memory : Memory) (end : Ended) (out : Writes) (status : ℕ) : Type 0 where
  pub printed : List ℕ
  pub whole : IsHonestIn honest memory.store → printed ≡ end.output.items
  pub written : Appends out.before.contents out.after.contents (printed ++ shown_rest end)
  pub sound : NoneFailed out
  pub own : status ≡ run_status end.run

-- The program of a file ran to its end, as it is asked for: it was shown as it came, or one write failed; and where it was asked for it is told where it stopped at most,
-- what it wanted, whether it passed the limit, and what was counted of it
pub record IsEndedLive (honest : Type 0) (asked : Started) (file : Text) (held : Text → Known) (programs : List Verified) (out err : Writes) (result : ℕ) : Type 0 where
  pub finished : Finished
  pub took : Option ℕ
  pub executed : RanOver honest asked.memory programs (finished ∷ [])
  pub status : ℕ
  pub shown : IsShownLive honest asked.memory finished.end out status ⊎ ((status ≡ 2) × OneFailed out)
  pub told : TellsBeside asked.explains asked.stats asked.limit held (file ∷ []) (share_of asked.memory.objects (length programs)) (finished ∷ []) [] took err status result

-- in what follows folders are honest where h holds, this is asked for this file, and files hold this
module _ (h : Type 0) (asked : Started) (file : Text) (held : Text → Known) where
  -- the code of the file is admitted to this memory, and was run to its end; or one write failed before, and nothing was done behind it
  pub record HasRunLive (out err : Writes) (result : ℕ) : Type 0 where
    pub programs : List Verified
    pub codes : AreCodes asked.compiling held (file ∷ []) programs
    pub admitted : IsAdmitted programs asked.memory.frames asked.memory.objects asked.evacuators asked.fetchers × IsWithinWork asked.work.workers asked.work.quantum
    pub ended : IsEndedLive h asked file held programs out err result ⊎ ((result ≡ 2) × OneFailed out × IsQuiet err)

  -- the command `run --live` of this file
  abbrev pub RunsLive : Writes → Writes → ℕ → Type 0
  RunsLive out err result =
      HasRunLive out err result ⊎ (IsNotRun h asked (file ∷ []) held out err result ⊎ (LacksCode asked.compiling held (file ∷ []) out err result ⊎ LacksMemory out err result))

-- over an honest store `run --live` shows just what `run` shows of the file, with the same status, where no write fails; what is counted need not be the same
abbrev pub LiveShowsTheSame : Type 0 → Type 0
LiveShowsTheSame h = (asked : Started) (file : Text) (held : Text → Known) (out err : Writes) (result : ℕ) → IsHonestIn h asked.memory.store → HasRunLive h asked file held out err result
    → HasRun h asked (file ∷ []) held out err result ⊎ ((result ≡ 2) × OneFailed out)
