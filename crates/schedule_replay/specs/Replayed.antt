-- What programs come to by a schedule.
use Rattle.std.specs.Prelude.{◌≡◌, ◌≢◌, ℕ, suc, ◌<◌, true, Some, None, List, [], ◌∷◌, ◌++◌, length, map}
use Rattle.cells.specs.declared.ending.Ended.{Ended}
use Rattle.code_form.specs.Form.{Image}
use Rattle.pointer_word.specs.Machine.{Far, Kept}
use Rattle.schedule_lines.specs.Lines.{Line}
use Rattle.world.specs.Reports.{AreEnds, AreLines, IsStuckAt}
use Rattle.world.specs.Telling.{asked_by}
use Rattle.world.specs.declared.schedule.Refused.{Refused}
use Rattle.world.specs.declared.schedule.Refused.TheVariants as refused
use Rattle.world_memory.specs.Answered.{Asked, Nothing, Puts, Gets}
use Rattle.world_semantics.specs.Turns.{Answer}
use Rattle.world_semantics.specs.Worlds.{Event, Follows, Sizes, World, event, start}

-- the line of an event
abbrev pub line_of : Event → Line
line_of e = record { actor = e.actor; choice = e.choice }

-- with store cells that hold this, the store refuses no put, and no get of what was put
abbrev pub RefusesNone : (ℕ → Far) → Asked → Answer → Type 0
RefusesNone far Nothing a = Unit {0}
RefusesNone far (Puts o) a = a.stored ≡ true
RefusesNone far (Gets o) a = (words : List ℕ) → far o ≡ Kept words → a.read ≢ None

-- where r holds, the store refuses in none of these events, which begin in the world w, a put or a get of what was put
abbrev pub NoneIsRefused : Type 0 → Sizes → (ℕ → Image) → World → List Event → Type 0
NoneIsRefused r z images w [] = Unit {0}
NoneIsRefused r z images w (e ∷ es) = (r → RefusesNone w.lock.far (asked_by z w e.actor) e.answer) × ((u : World) → event z images w e ≡ Some u → NoneIsRefused r z images u es)

-- this text is lines, whose events lead from the beginning of these images to the world v, over a store that is honest where h holds, and never fails where r holds
pub record Leads (h r : Type 0) (z : Sizes) (images : ℕ → Image) (text : List ℕ) (events : List Event) (v : World) : Type 0 where
  pub lines : AreLines (map line_of events) text
  pub follows : Follows h z images (start images) events v
  pub none_refused : NoneIsRefused r z images (start images) events

-- the events of the schedule lead from the beginning of these images to a world, and these are the ends of its programs
pub record IsReplayed (h r : Type 0) (z : Sizes) (images : ℕ → Image) (schedule : List ℕ) (ends : List Ended) : Type 0 where
  pub events : List Event
  pub world : World
  pub leads : Leads h r z images schedule events world
  pub all : length ends ≡ z.programs
  pub ended : AreEnds world.programs 0 ends

-- the events of the lines before this one, counted from 1, lead to a world in which it is no line, or one that is not enabled
pub record StopsAt (h r : Type 0) (z : Sizes) (images : ℕ → Image) (schedule : List ℕ) (line : ℕ) : Type 0 where
  pub text : List ℕ
  pub rest : List ℕ
  pub cut : schedule ≡ text ++ rest
  pub events : List Event
  pub world : World
  pub leads : Leads h r z images text events world
  pub count : line ≡ suc (length events)
  pub more : 0 < length rest
  pub stuck : IsStuckAt z images world rest

-- why a schedule is not replayed: a line of it, or want of memory
abbrev pub IsUnreplayed : (h r : Type 0) → Sizes → (ℕ → Image) → List ℕ → Refused → Type 0
IsUnreplayed h r z images schedule (refused.Line line) = StopsAt h r z images schedule line
IsUnreplayed h r z images schedule refused.OutOfMemory = Unit {0}
