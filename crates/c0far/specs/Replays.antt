-- What `replay` does.
use Rattle.std.specs.Prelude.{◌≡◌, ◌≢◌, ◌⊎◌, ℕ, List, ◌++◌, None, length, codes, decimal}
use Rattle.std.specs.List.{All}
use Rattle.cells.specs.declared.ending.Ended.{Ended}
use Rattle.cells.specs.declared.ending.Run.TheVariants.{Wanted}
use Rattle.cells.specs.declared.ending.Want.TheVariants.{StoreFailed}
use Rattle.clap.specs.Words.{Text}
use Rattle.command_line.specs.Shell.{Replayed}
use Rattle.region.specs.Admission.{IsAdmitted, IsRefused, IsWithinWork, image_at}
use Rattle.region.specs.declared.fault.AdmitFault.{AdmitFault}
use Rattle.schedule_replay.specs.Replayed.{IsReplayed, StopsAt}
use Rattle.scope_verifier.specs.declared.acceptance.Verified.{Verified}
use Rattle.world.specs.Opened.{sizes_of}
use Rattle.world_semantics.specs.Pieces.{piece_of}
use Rattle.world_semantics.specs.Worlds.{Sizes}
use Rattle.c0far.specs.FileCode.{AreCodes}
use Rattle.command_files.specs.FileTexts.{HasText, Known}
use Rattle.c0far.specs.NoCode.{IsUnread, LacksCode, LacksMemory}
use Rattle.c0far.specs.Runs.{IsHonestIn, IsReliableIn}
use Rattle.command_messages.specs.Refusals.{SaysFault}
use Rattle.command_messages.specs.Shown.{ends_status, newline, shown_ends}
use Rattle.streams.specs.Streams.{IsQuiet, Says, Writes}

-- in what follows the store is honest where h holds and never fails where r holds, this is asked for these files, and files hold this
module _ (h r : Type 0) (asked : Replayed) (files : List Text) (held : Text → Known) where
  -- the sizes of the world of these programs
  abbrev pub sizes : List Verified → Sizes
  sizes programs = sizes_of (length programs) asked.memory.frames asked.memory.objects asked.evacuators asked.fetchers (piece_of (image_at programs))

  -- these programs are the codes of the files, and are admitted, and so is the work that is asked for
  pub record Admits (programs : List Verified) : Type 0 where
    pub codes : AreCodes asked.compiling held files programs
    pub admitted : IsAdmitted programs asked.memory.frames asked.memory.objects asked.evacuators asked.fetchers
    pub work : IsWithinWork asked.work.workers asked.work.quantum

  -- the programs of the files are not admitted: it is told why
  pub record LacksRoom (out err : Writes) (result : ℕ) : Type 0 where
    pub programs : List Verified
    pub codes : AreCodes asked.compiling held files programs
    pub fault : AdmitFault
    pub cause : IsRefused programs asked.memory.frames asked.memory.objects asked.evacuators asked.fetchers asked.work.workers asked.work.quantum fault
    pub shown : SaysFault fault err result
    pub quiet : IsQuiet out

  -- the schedule was replayed: the ends of its programs are shown
  pub record HasReplayed (out err : Writes) (result : ℕ) : Type 0 where
    pub programs : List Verified
    pub admits : Admits programs
    pub lines : List ℕ
    pub read : HasText (held asked.schedule) lines
    pub ends : List Ended
    pub replayed : IsReplayed h r (sizes programs) (image_at programs) lines ends
    pub shown : Says out (shown_ends ends) (ends_status ends) result
    pub quiet : IsQuiet err

  -- a line of the schedule can't be read or is not enabled: the first that is so is told
  pub record HasStopped (out err : Writes) (result : ℕ) : Type 0 where
    pub programs : List Verified
    pub admits : Admits programs
    pub lines : List ℕ
    pub read : HasText (held asked.schedule) lines
    pub line : ℕ
    pub stops : StopsAt h r (sizes programs) (image_at programs) lines line
    pub shown : Says err (codes "refused line " ++ (decimal line ++ newline)) 2 result
    pub quiet : IsQuiet out

  -- what is done of programs that are admitted
  abbrev pub ReplaysLines : Writes → Writes → ℕ → Type 0
  ReplaysLines out err result = HasReplayed out err result ⊎ (HasStopped out err result ⊎ LacksMemory out err result)

  -- what is done of programs
  abbrev pub ReplaysOver : Writes → Writes → ℕ → Type 0
  ReplaysOver out err result = ReplaysLines out err result ⊎ (LacksRoom out err result ⊎ IsUnread asked.schedule (held asked.schedule) out err result)

-- the command `replay` of these files, where files hold this and folders are honest or not; the store in memory never fails, unless it is asked to
abbrev pub Replays : Type 0 → Replayed → List Text → (Text → Known) → Writes → Writes → ℕ → Type 0
Replays honest asked files held out err result = ReplaysOver (IsHonestIn honest asked.memory.store) (IsReliableIn asked.memory) asked files held out err result ⊎ LacksCode asked.compiling held files out err result

-- over the store in memory of which no call is to fail, a replay shows of no program that the store failed
abbrev pub ReplaysNeverFail : Type 0
ReplaysNeverFail = (asked : Replayed) (files : List Text) (held : Text → Known) (out err : Writes) (result : ℕ) → asked.memory.store ≡ None → asked.memory.fail_from ≡ 0
    → (did : HasReplayed (Unit {0}) (IsReliableIn asked.memory) asked files held out err result) → All (λ e. e.run ≢ Wanted StoreFailed) did.ends
