-- What is promised of what the commands `run` and `replay` show.
use Rattle.std.specs.Prelude.{◌≡◌, ◌⊎◌, ℕ, ◌/◌, Bool, List, length, Some, slice_get}
use Rattle.cells.specs.declared.ending.Ended.{Ended}
use Rattle.cells.specs.declared.ending.Want.{Want}
use Rattle.cells.specs.declared.ending.Want.TheVariants.{OutOfMemory}
use Rattle.clap.specs.Words.{Text}
use Rattle.c0_front.specs.Texts.{IsTypedAs}
use Rattle.c0_image.specs.Compiled.{IsCompiled}
use Rattle.c0_typed.specs.Trees.{Program as Typed}
use Rattle.code_form.specs.Code.{code, effect}
use Rattle.code_form.specs.Effects.{code_run}
use Rattle.code_form.specs.Form.{image_of}
use Rattle.code_form.specs.Touches.{touch_of}
use Rattle.code_form.specs.declared.touch.Touch.TheVariants.{Ends}
use Rattle.command_line.specs.Shell.{Replayed, Started}
use Rattle.program_run.specs.Executed.{WantsFor}
use Rattle.program_run.specs.declared.run.Finished.{Finished}
use Rattle.region.specs.Admission.{image_at}
use Rattle.scope_verifier.specs.declared.acceptance.Verified.{Verified}
use Rattle.session_events.specs.Laws.{EndsByEvents, IsCausedAmong, unused}
use Rattle.streams.specs.Streams.{Writes}
use Rattle.world.specs.Opened.{sizes_of}
use Rattle.world_semantics.specs.Causes.{HasCause}
use Rattle.world_semantics.specs.Pieces.{piece_of}
use Rattle.world_semantics.specs.Programs.{Setting, begun}
use Rattle.world_semantics.specs.Worlds.{setting, start}
use Rattle.command_files.specs.FileTexts.{Known}
use Rattle.c0far.specs.Replays.{HasReplayed}
use Rattle.c0far.specs.Runs.{HasRun, IsReliableIn}
use Rattle.c0far_headline.specs.Admitted.{PromisedEnd}

-- Why a program that is run beside others, of so many, wants something where its code's run is at the end that is shown of it, with an equal share of the objects
abbrev pub WantsThere : Started → ℕ → Verified → Finished → Want → Type 0
WantsThere asked programs v f = WantsFor (IsReliableIn asked.memory) (asked.memory.objects / programs) (image_of v.image) (code_run (code (image_of v.image)) f.end.completed).0

-- Of the ends that `run` shows, over the store in memory or over folders that are honest: each, of a program whose image a text was compiled to, is as promised of that text, and a
-- want has its cause in the code's run, with an equal share of the objects
abbrev pub RunShows : Type 0
RunShows = (asked : Started) (files : List Text) (held : Text → Known) (out err : Writes) (result : ℕ) → (did : HasRun (Unit {0}) asked files held out err result)
    → (k : ℕ) (v : Verified) (f : Finished) → slice_get did.programs k ≡ Some v → slice_get did.finished k ≡ Some f
    → (loops : Bool) (text : List ℕ) (checks : Bool) (cells : ℕ) (meant : Typed) → IsCompiled loops text checks cells (image_of v.image) → IsTypedAs loops text meant
    → PromisedEnd meant checks f.end (WantsThere asked (length did.programs) v f)

-- what program k of these runs on in the world of all of them, of as many frames, objects, evacuators and fetchers as were asked for
abbrev pub setting_in : Started → List Verified → ℕ → Setting
setting_in asked programs k = setting (sizes_of (length programs) asked.memory.frames asked.memory.objects asked.evacuators asked.fetchers (piece_of (image_at programs))) (image_at programs) k

-- Each end that `run` shows, over the store in memory or over folders that are honest, is that to which this program comes by some events, from its beginning on, in the world of all these
-- programs
abbrev pub RunShowsEvents : Type 0
RunShowsEvents = (asked : Started) (files : List Text) (held : Text → Known) (out err : Writes) (result : ℕ) → (did : HasRun (Unit {0}) asked files held out err result)
    → (k : ℕ) (f : Finished) → slice_get did.finished k ≡ Some f → EndsByEvents (setting_in asked did.programs k) f

-- Among these events of a program stands what it wants something for behind them: one is the cause (of StoreFailed, a call of its own that the store refused). Or it wants memory, and stands at
-- an instruction that ends it, for the text of whose error memory was refused
abbrev pub WantsBy : (g : Setting) → (f : Finished) → EndsByEvents g f → Want → Type 0
WantsBy g f by want = IsCausedAmong g want (begun g.image) unused by.events ⊎ ((want ≡ OutOfMemory) × (touch_of (effect g.image by.program.core) ≡ Ends))

-- The headline of runs on threads. Of the ends that `run` shows, over the store in memory or over folders that are honest: each, of a program whose image a text was compiled to, is one to
-- which its program comes by some events in the world of all these programs, and is as promised of that text, where a want has its cause in the code's run, and stands among these events
abbrev pub HeadlineOfRuns : Type 0
HeadlineOfRuns = (asked : Started) (files : List Text) (held : Text → Known) (out err : Writes) (result : ℕ) → (did : HasRun (Unit {0}) asked files held out err result)
    → (k : ℕ) (v : Verified) (f : Finished) → slice_get did.programs k ≡ Some v → slice_get did.finished k ≡ Some f
    → (loops : Bool) (text : List ℕ) (checks : Bool) (cells : ℕ) (meant : Typed) → IsCompiled loops text checks cells (image_of v.image) → IsTypedAs loops text meant
    → (by : EndsByEvents (setting_in asked did.programs k) f) × PromisedEnd meant checks f.end (λ want. WantsThere asked (length did.programs) v f want × WantsBy (setting_in asked did.programs k) f by want)

-- Of the ends that `replay` shows, over the store in memory or over folders that are honest: each, of a program whose image a text was compiled to, is as promised of that text, and a
-- want has its cause among the events of the schedule
abbrev pub ReplayShows : Type 0
ReplayShows = (asked : Replayed) (files : List Text) (held : Text → Known) (out err : Writes) (result : ℕ)
    → (did : HasReplayed (Unit {0}) (IsReliableIn asked.memory) asked files held out err result) → (k : ℕ) (e : Ended) → slice_get did.ends k ≡ Some e
    → (loops : Bool) (text : List ℕ) (checks : Bool) (cells : ℕ) (meant : Typed) → IsCompiled loops text checks cells (image_at did.programs k) → IsTypedAs loops text meant
    → PromisedEnd meant checks e
    (λ want. HasCause (Unit {0}) (sizes_of (length did.programs) asked.memory.frames asked.memory.objects asked.evacuators asked.fetchers (piece_of (image_at did.programs)))
    (image_at did.programs) k want (start (image_at did.programs)) did.replayed.events)
