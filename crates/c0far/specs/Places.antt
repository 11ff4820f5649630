-- What is told of where programs stopped.
use Rattle.std.specs.Prelude.{◌≡◌, ◌⊎◌, ◌++◌, ℕ, Bool, true, false, List, [], ◌∷◌, Option}
use Rattle.std.specs.Io.KnownBytes.{Appends}
use Rattle.c0_meaning.specs.declared.pending.Numbers.{Numbers}
use Rattle.clap.specs.Words.{Text}
use Rattle.cells.specs.Stops.{stop_of}
use Rattle.cells.specs.declared.ending.Run.{Run}
use Rattle.cells.specs.declared.ending.Run.TheVariants.{Stopped, Wanted}
use Rattle.cells.specs.declared.ending.Stop.{Stop}
use Rattle.cells.specs.declared.ending.Want.TheVariants.{OutOfMemory}
use Rattle.executor.specs.declared.counts.MoverCounts.{MoverCounts}
use Rattle.program_run.specs.declared.run.Finished.{Finished}
use Rattle.streams.specs.Streams.{Held, NoneFailed, OneFailed, Writes}
use Rattle.c0far.specs.FileCode.{names_image}
use Rattle.command_files.specs.FileTexts.{HasText, Known}
use Rattle.command_messages.specs.Shown.{StandsAt, call_line, shown_stop}
use Rattle.command_messages.specs.Statuses.{run_status}
use Rattle.command_messages.specs.Wants.{TellsMore}

-- what became of a stream until it held this
abbrev pub until : Held → Writes → Writes
until middle w = record { before = w.before; after = middle }

-- what became of it from there on
abbrev pub since : Held → Writes → Writes
since middle w = record { before = middle; after = w.after }

-- the program of a file, which is no image and holds this text, stopped so, and not by a result: this line tells a place of the text, and how it stopped
pub record IsStopLine (file : Text) (held : Known) (run : Run) (bytes : List ℕ) : Type 0 where
  pub stop : Stop
  pub is : run ≡ Stopped stop
  pub other : run_status run ≡ 1
  pub of_text : names_image file ≡ false
  pub text : List ℕ
  pub read : HasText held text
  pub at : ℕ
  pub line : ℕ
  pub column : ℕ
  pub stands : StandsAt text at line column
  pub by : Option Numbers
  pub line_is : bytes ≡ shown_stop file line column (stop_of stop) by

-- the program of a file, which is no image and holds this text, wanted memory: this line tells a place of the text, and a name
pub record IsCallLine (file : Text) (held : Known) (run : Run) (bytes : List ℕ) : Type 0 where
  pub is : run ≡ Wanted OutOfMemory
  pub of_text : names_image file ≡ false
  pub text : List ℕ
  pub read : HasText held text
  pub at : ℕ
  pub line : ℕ
  pub column : ℕ
  pub stands : StandsAt text at line column
  pub name : List ℕ
  pub line_is : bytes ≡ call_line file line column name

-- what is told of where the program of a file stopped that ended so, or of which function it called last: nothing, or a line
abbrev pub IsPlace : Text → Known → Run → List ℕ → Type 0
IsPlace file held run bytes = (bytes ≡ []) ⊎ (IsStopLine file held run bytes ⊎ IsCallLine file held run bytes)

-- the same of several, in their order
abbrev pub ArePlaces : (held : Text → Known) → List Text → List Finished → List ℕ → Type 0
ArePlaces held [] ends bytes = bytes ≡ []
ArePlaces held (file ∷ files) [] bytes = bytes ≡ []
ArePlaces held (file ∷ files) (f ∷ fs) bytes = (first : List ℕ) × (rest : List ℕ) × IsPlace file (held file) f.end.run first × ArePlaces held files fs rest × (bytes ≡ first ++ rest)

-- it was written where programs of these files stopped, which hold this, and then it is told what they wanted, and what was counted if that was asked for
pub record HasTold (stats : Bool) (limit : ℕ) (held : Text → Known) (files : List Text) (share : ℕ) (ends : List Finished) (movers : List MoverCounts) (took : Option ℕ) (err : Writes) (status result : ℕ) : Type 0 where
  pub places : List ℕ
  pub are : ArePlaces held files ends places
  pub middle : Held
  pub written : Appends err.before.contents middle.contents places
  pub sound : NoneFailed (until middle err)
  pub more : TellsMore true stats limit share ends movers took (since middle err) status result

-- What is told beside the ends of the programs of these files, which hold this: where they stopped and what they wanted, where that was asked for, which passed the limit of
-- so many MiB, if there is one, and what was counted; or one write failed, and the command answers 2
abbrev pub TellsBeside : (explains stats : Bool) → (limit : ℕ) → (held : Text → Known) → List Text → ℕ → List Finished → List MoverCounts → (took : Option ℕ) → Writes → ℕ → ℕ → Type 0
TellsBeside false stats limit held files share ends movers took err status result = TellsMore false stats limit share ends movers took err status result
TellsBeside true stats limit held files share ends movers took err status result = HasTold stats limit held files share ends movers took err status result ⊎ ((result ≡ 2) × OneFailed err)
