-- What `run` does.
use Rattle.std.specs.Prelude.{◌≡◌, ◌⊎◌, ℕ, ◌/◌, List, Option, Some, None, length, map, slice_get}
use Rattle.clap.specs.Words.{Text}
use Rattle.code_form.specs.Form.{Image}
use Rattle.command_line.specs.Shell.{Memory, Started}
use Rattle.executor.specs.Ends.{AreFinished, end_of}
use Rattle.executor.specs.declared.counts.MoverCounts.{MoverCounts}
use Rattle.program_run.specs.declared.run.Finished.{Finished}
use Rattle.pointer_word.specs.Machine.{State}
use Rattle.region.specs.Admission.{IsAdmitted, IsDenied, IsWithinWork, image_at}
use Rattle.region.specs.declared.fault.AdmitFault.{AdmitFault}
use Rattle.scope_verifier.specs.declared.acceptance.Verified.{Verified}
use Rattle.session_events.specs.OneWorld.{IsOneWorld}
use Rattle.session_events.specs.Together.{IsEndedAt, IsTold}
use Rattle.world.specs.Opened.{sizes_of}
use Rattle.world_semantics.specs.Pieces.{piece_of}
use Rattle.world_semantics.specs.Programs.{Program}
use Rattle.world_semantics.specs.Worlds.{Sizes}
use Rattle.c0far.specs.FileCode.{AreCodes}
use Rattle.command_files.specs.FileTexts.{Known}
use Rattle.c0far.specs.NoCode.{LacksCode, LacksMemory}
use Rattle.command_messages.specs.Refusals.{SaysFault}
use Rattle.command_messages.specs.Shown.{ends_status, shown_ends}
use Rattle.c0far.specs.Places.{TellsBeside}
use Rattle.command_messages.specs.Wants.{share_of}
use Rattle.streams.specs.Streams.{IsQuiet, Says, Writes}

-- the store, in memory or in this folder, is honest: one in memory always is, one in files where folders are
abbrev pub IsHonestIn : Type 0 → Option Text → Type 0
IsHonestIn honest None = Unit {0}
IsHonestIn honest (Some folder) = honest

-- the store of this memory never fails: it is in memory, and no call is to fail
abbrev pub IsReliableIn : Memory → Type 0
IsReliableIn memory = (memory.store ≡ None) × (memory.fail_from ≡ 0)

-- the programs ran so over this memory, of whose objects each had an equal share; of a store that is not honest nothing is told
abbrev pub RanOver : Type 0 → Memory → List Verified → List Finished → Type 0
RanOver honest memory programs finished = AreFinished (IsHonestIn honest memory.store) (IsReliableIn memory) (memory.objects / length programs) programs finished

-- the sizes of the world of these programs over this memory, with so many evacuators and fetchers
abbrev pub world_over : Memory → (evacuators fetchers : ℕ) → List Verified → Sizes
world_over memory evacuators fetchers programs = sizes_of (length programs) memory.frames memory.objects evacuators fetchers (piece_of (image_at programs))

-- some events lead a world of these images from its beginning to where each program is where this end of it is told of, and each mover is idle
abbrev pub IsOneRun : Sizes → (ℕ → Image) → List Finished → Type 0
IsOneRun z images ends = (t : State) × (at : ℕ → Program) × IsOneWorld (Unit {0}) z images t at × ((k : ℕ) (e : Finished) → slice_get ends k ≡ Some e → IsEndedAt (images k) e (at k))

-- Over a store that is honest and reliable, where no end is a want of memory for the text of an error: what all programs, evacuators and fetchers did, on whichever threads and in whichever order, is one run of one world, which
-- these ends are of
abbrev pub RanAsOne : Type 0 → Type 0 → Sizes → (ℕ → Image) → List Finished → Type 0
RanAsOne honest reliable z images ends = honest → reliable → ((k : ℕ) (e : Finished) → slice_get ends k ≡ Some e → IsTold (images k) e) → IsOneRun z images ends

-- in what follows folders are honest where h holds, this is asked for these files, and files hold this
module _ (h : Type 0) (asked : Started) (files : List Text) (held : Text → Known) where
  -- the codes of the files are admitted to this memory, and ran side by side: of each is shown what it printed and how it ended, and where it was asked for it is
  -- told where each stopped at most, what each wanted that wanted something, which passed the limit, and what was counted of each, and of some movers
  pub record HasRun (out err : Writes) (result : ℕ) : Type 0 where
    pub programs : List Verified
    pub codes : AreCodes asked.compiling held files programs
    pub admitted : IsAdmitted programs asked.memory.frames asked.memory.objects asked.evacuators asked.fetchers × IsWithinWork asked.work.workers asked.work.quantum
    pub finished : List Finished
    pub movers : List MoverCounts
    pub took : Option ℕ
    pub executed : RanOver h asked.memory programs finished
    pub status : ℕ
    pub shown : Says out (shown_ends (map end_of finished)) (ends_status (map end_of finished)) status
    pub told : TellsBeside asked.explains asked.stats asked.limit held files (share_of asked.memory.objects (length programs)) finished movers took err status result

  -- ... and what all of them did is one run of one world
  abbrev pub HasRunAsOne : Writes → Writes → ℕ → Type 0
  HasRunAsOne out err result =
      (did : HasRun out err result) × RanAsOne (IsHonestIn h asked.memory.store) (IsReliableIn asked.memory) (world_over asked.memory asked.evacuators asked.fetchers did.programs) (image_at did.programs) did.finished

  -- the programs of the files are not admitted to this memory: it is told why; or they are, and memory was wanted
  pub record IsNotRun (out err : Writes) (result : ℕ) : Type 0 where
    pub programs : List Verified
    pub codes : AreCodes asked.compiling held files programs
    pub fault : AdmitFault
    pub cause : IsDenied programs asked.memory.frames asked.memory.objects asked.evacuators asked.fetchers asked.work.workers asked.work.quantum fault
    pub shown : SaysFault fault err result
    pub quiet : IsQuiet out

  -- the command `run` of these files
  abbrev pub Runs : Writes → Writes → ℕ → Type 0
  Runs out err result = HasRunAsOne out err result ⊎ (IsNotRun out err result ⊎ (LacksCode asked.compiling held files out err result ⊎ LacksMemory out err result))
