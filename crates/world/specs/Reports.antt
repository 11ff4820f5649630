-- What is told of a world after the lines of a schedule.
use Rattle.std.specs.Prelude.{◌≡◌, ◌≢◌, ◌⊎◌, ℕ, suc, ◌%◌, ◌<◌, List, [], ◌∷◌, ◌++◌, length, Some, None}
use Rattle.cells.specs.declared.ending.Ended.{Ended}
use Rattle.cells.specs.declared.ending.Run.{Run}
use Rattle.cells.specs.declared.ending.Run.TheVariants as run
use Rattle.cells.specs.declared.ending.Want.{Want}
use Rattle.cells.specs.declared.ending.Want.TheVariants as want
use Rattle.cells.specs.Stops.{stop_of as stop_read}
use Rattle.code_form.specs.Code.{output_of, stop_of}
use Rattle.code_form.specs.Form.{Image}
use Rattle.remote_store.specs.declared.port.Port.{Port}
use Rattle.schedule_lines.specs.Lines.{Line, IsLine, IsLine32, IsNoLine, spell}
use Rattle.world_semantics.specs.declared.event.Actor.{Actor}
use Rattle.world_semantics.specs.declared.event.Actor.TheVariants as actor
use Rattle.world_semantics.specs.Programs.{Program, Wanted}
use Rattle.world_memory.specs.Answered.{AnswersSo}
use Rattle.world.specs.Telling.{IsPortOf, asked_by}
use Rattle.world.specs.Parts.{Parts}
use Rattle.world.specs.declared.schedule.Refused.{Refused}
use Rattle.world.specs.declared.schedule.Refused.TheVariants as refused
use Rattle.world_semantics.specs.Turns.{Answer}
use Rattle.world_semantics.specs.Worlds.{Event, IsHonest, Sizes, World, event, start}

-- a program has stopped so, or wants this; or neither
abbrev pub RunsAs : Program → Run → Type 0
RunsAs p run.Running = (stop_of p.core ≡ None) × ((want : Want) → p.mode ≢ Wanted want)
RunsAs p (run.Stopped x) = stop_of p.core ≡ Some (stop_read x)
RunsAs p (run.Wanted want) = (stop_of p.core ≡ None) × (p.mode ≡ Wanted want)

-- what a program printed, how it runs, and how many instructions it completed, modulo 2^64
pub record IsEnded (p : Program) (e : Ended) : Type 0 where
  pub output : e.output.items ≡ output_of p.core
  pub runs : RunsAs p e.run
  pub completed : e.completed ≡ p.completed % 18446744073709551616

-- the event of a line, where this is answered
abbrev pub event_of : Line → Answer → Event
event_of x a = record { actor = x.actor; choice = x.choice; answer = a }

-- the text of lines, whose numbers fit in 32 bits
abbrev pub AreLines : List Line → List ℕ → Type 0
AreLines [] text = text ≡ []
AreLines (x ∷ xs) text = IsLine32 x × ((rest : List ℕ) × (text ≡ spell x ++ rest) × AreLines xs rest)

-- the ends of programs, from number k on
abbrev pub AreEnds : (ℕ → Program) → ℕ → List Ended → Type 0
AreEnds programs k [] = Unit {0}
AreEnds programs k (e ∷ es) = IsEnded (programs k) e × AreEnds programs (suc k) es

-- the actor is a program to which memory was refused
abbrev pub WantsMemory : Sizes → World → Actor → Type 0
WantsMemory z w (actor.Program k) = (k < z.programs) × ((w.programs k).mode ≡ Wanted want.OutOfMemory)
WantsMemory z w _ = ⊥

-- what comes next in the schedule is, in the world w, no line, or a line that is not enabled, whatever is answered, and not for want of memory
abbrev pub IsStuckAt : Sizes → (ℕ → Image) → World → List ℕ → Type 0
IsStuckAt z images w text = IsNoLine text
    ⊎ ((x : Line) × (rest : List ℕ) × IsLine x rest text × ((a : Answer) → event z images w (event_of x a) ≡ None) × (WantsMemory z w x.actor → ⊥))

-- `honest` says that the store gives back what was put, `reliable` that it never fails, `failures` counts its calls that failed, and
-- `gives` tells what a read of a cell gave, by the store before it and after it
module _ {S C : Type 0} (honest reliable : Type 0) (failures : S → ℕ) (gives : S → C → List ℕ → S → Type 0) where
  -- in the world w, which code held so before and so after, with a berth for each object, the store answered so to this actor, by its way to it
  pub record Told (z : Sizes) (w : World) (x y : Parts S C) (actor : Actor) (a : Answer) : Type 0 where
    pub many : length x.berths.items ≡ z.objects
    pub before : Port S C
    pub after : Port S C
    pub from : IsPortOf x actor before
    pub to : IsPortOf y actor after
    pub answered : AnswersSo reliable failures gives z.cells x.berths.items before after w.lock.far (asked_by z w actor) a

  -- these lines lead from one world to another, as the store answered to each
  abbrev pub LinesLead : Sizes → (ℕ → Image) → World → Parts S C → List Line → World → Parts S C → Type 0
  LinesLead z images w x [] v y = (v ≡ w) × (y ≡ x)
  LinesLead z images w x (l ∷ ls) v y =
      (a : Answer) × (u : World) × (t : Parts S C) × (event z images w (event_of l a) ≡ Some u) × (honest → IsHonest z w l.actor a) × Told z w x t l.actor a
      × LinesLead z images u t ls v y

  -- all lines of the schedule lead from the world w to the world v
  abbrev pub HasLed : Sizes → (ℕ → Image) → World → Parts S C → List ℕ → World → Parts S C → Type 0
  HasLed z images w x schedule v y = (lines : List Line) × AreLines lines schedule × LinesLead z images w x lines v y

  -- the lines before this one, counted from 1, lead from the world w to the world v, and the rest of the schedule stands behind them
  pub record HasCome (z : Sizes) (images : ℕ → Image) (w : World) (x : Parts S C) (schedule rest : List ℕ) (line : ℕ) (v : World) (y : Parts S C) : Type 0 where
    pub before : List Line
    pub text : List ℕ
    pub cut : schedule ≡ text ++ rest
    pub lines : AreLines before text
    pub count : line ≡ suc (length before)
    pub leads : LinesLead z images w x before v y

  -- the lines before this one, counted from 1, lead from the world w to one in which it is no line or is not enabled
  abbrev pub IsRefusedLine : Sizes → (ℕ → Image) → World → Parts S C → List ℕ → ℕ → Type 0
  IsRefusedLine z images w x schedule line =
      (v : World) × (y : Parts S C) × (rest : List ℕ) × HasCome z images w x schedule rest line v y × (0 < length rest) × IsStuckAt z images v rest

  -- the lines before some line lead from the world w to one in which that line is one of a program that wants memory
  abbrev pub IsStarved : Sizes → (ℕ → Image) → World → Parts S C → List ℕ → Type 0
  IsStarved z images w x schedule =
      (line : ℕ) × (v : World) × (y : Parts S C) × (rest : List ℕ) × HasCome z images w x schedule rest line v y × ((l : Line) × (others : List ℕ) × IsLine l others rest × WantsMemory z v l.actor)

  -- why the lines of the schedule are not all done from the world w on: a line of it, or want of memory of a program of it
  abbrev pub IsRefusedFrom : Sizes → (ℕ → Image) → World → Parts S C → List ℕ → Refused → Type 0
  IsRefusedFrom z images w x schedule (refused.Line line) = IsRefusedLine z images w x schedule line
  IsRefusedFrom z images w x schedule refused.OutOfMemory = IsStarved z images w x schedule

  -- all lines of the schedule lead from the beginning to a world, and these are the ends of its programs
  pub record IsReport (z : Sizes) (images : ℕ → Image) (schedule : List ℕ) (ends : List Ended) : Type 0 where
    pub opening : Parts S C
    pub world : World
    pub closing : Parts S C
    pub led : HasLed z images (start images) opening schedule world closing
    pub all : length ends ≡ z.programs
    pub ended : AreEnds world.programs 0 ends

  -- why a schedule is refused: a line of it, or want of memory
  abbrev pub IsRefusal : Sizes → (ℕ → Image) → List ℕ → Refused → Type 0
  IsRefusal z images schedule (refused.Line line) = (opening : Parts S C) × IsRefusedLine z images (start images) opening schedule line
  IsRefusal z images schedule refused.OutOfMemory = Unit {0}
