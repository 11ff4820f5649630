-- What sessions did on threads is what their programs do in events.
use Rattle.std.specs.Prelude.{◌≡◌, ◌≢◌, ◌⊎◌, ◌+◌, ◌++◌, ◌∷◌, ℕ, suc, List, map, Option, Some, None}
use Rattle.cells.specs.declared.ending.Run as ending
use Rattle.cells.specs.declared.ending.Run.TheVariants as Run
use Rattle.cells.specs.declared.ending.Want.{Want}
use Rattle.cells.specs.declared.ending.Want.TheVariants.{NoObjects, OutOfMemory, StoreFailed}
use Rattle.cells.specs.Stops.{stop_of as stop_read}
use Rattle.code_form.specs.Code.{effect, output_of, stop_of}
use Rattle.code_form.specs.Form.{Image}
use Rattle.code_form.specs.Touches.{touch_of}
use Rattle.code_form.specs.declared.touch.Touch.TheVariants.{Ends}
use Rattle.pointer_word.specs.Asked.{HasNothing}
use Rattle.pointer_word.specs.Hands.{blank, empty_handed}
use Rattle.pointer_word.specs.Machine.{State}
use Rattle.object_lock.specs.Seats.{Owns, View, note}
use Rattle.session.specs.declared.hold.Hold as own
use Rattle.session.specs.Performing.{Acts, PerformsSome}
use Rattle.session.specs.State as session
use Rattle.program_run.specs.Acting.{Share}
use Rattle.program_run.specs.Executed.{IsFinishedOver}
use Rattle.program_run.specs.declared.run.Finished.{Finished}
use Rattle.world_semantics.specs.declared.hold.Hold.{Hold}
use Rattle.world_semantics.specs.Causes.{CauseOf, LeadsTo}
use Rattle.world_semantics.specs.Programs.{Mode, Program, Ready, Setting, Wanted, begun}
use Rattle.world_semantics.specs.Turns.{program_turn, taken}
use Rattle.mover_events.specs.Going.{Event}
use Rattle.session_events.specs.Knowing.{Goes, Known}

-- what a scope of the program holds in the world, of what it holds in the session
abbrev pub hold_seen : Option own.Hold → Option Hold
hold_seen None = None
hold_seen (Some h) = Some (record { object = h.object; writes = h.writes })

-- between two instructions, or wanting something
abbrev pub mode_of : Option Want → Mode
mode_of None = Ready
mode_of (Some w) = Wanted w

-- the session's program in a world
abbrev pub program_of : session.State → Program
program_of s = record { core = s.core; holds = map hold_seen s.holds; mode = mode_of s.want; completed = s.completed }

-- what it runs on there
abbrev pub setting_of : session.State → Setting
setting_of s = record { size = s.view.sizes.cells; base = s.view.low; limit = s.view.high; mover = s.view.number; image = s.image }

-- with nothing in hand, a seat of this view did so much as a mover, and knows this of the objects of its own
pub record IsKnown (v : View) (k : Known) : Type 0 where
  pub nothing : HasNothing k.hand
  pub past : k.hand.past ≡ v.hand.past
  pub notes : (o : ℕ) → Owns v o → k.notes o ≡ note v o

-- what a session did from s to t its program does by some events
abbrev pub DoesByEvents : session.State → session.State → Type 0
DoesByEvents s t = (k : Known) → IsKnown s.view k → (es : List Event) × (l : Known) × Goes (setting_of s) (program_of s) k es (program_of t) l × IsKnown t.view l

-- so it does what a session did by which it completed instructions one behind the other
abbrev pub InstructionsAreEvents : Type 0 → Type 0
InstructionsAreEvents honest = (s t : session.Logged) → PerformsSome honest s t → DoesByEvents s.state t.state

-- So it does what a session that was going on did in a run. Left out are a want of the store as the code is halted, which is never so over an honest store; and one of memory for the
-- text of an error, where the session keeps its holds, which the program of a world shuts before it stops
abbrev pub RunsAreEvents : Type 0 → Type 0 → Type 0
RunsAreEvents honest reliable = (s t : session.Logged) (r : ending.Run) → Acts honest reliable s t r → (r ≡ Run.Wanted StoreFailed → session.IsHalted t.state → ⊥) → (r ≡ Run.Wanted OutOfMemory → session.next_touch t.state ≢ Ends)
    → DoesByEvents s.state t.state

-- an unused seat has nothing in hand, and knows of no store and no hold
abbrev pub unused : Known
unused = record { hand = empty_handed; notes = λ o. blank }

-- Where the program of this image is in a world at an end that is told so: it has stopped so, or wants this. Where memory was refused for the text of an error, the program of a world
-- is at that instruction still
abbrev pub IsAtEnd : Image → Program → ending.Run → Type 0
IsAtEnd C q Run.Running = ⊥
IsAtEnd C q (Run.Stopped x) = (q.mode ≡ Ready) × (stop_of q.core ≡ Some (stop_read x))
IsAtEnd C q (Run.Wanted NoObjects) = q.mode ≡ Wanted NoObjects
IsAtEnd C q (Run.Wanted OutOfMemory) = (q.mode ≡ Wanted OutOfMemory) ⊎ ((q.mode ≡ Ready) × (touch_of (effect C q.core) ≡ Ends))
IsAtEnd C q (Run.Wanted StoreFailed) = q.mode ≡ Wanted StoreFailed

-- Among these events, by which a program goes on from p where its seat knows k, one is the cause of this want: for memory or objects the one that leads to the want itself, for StoreFailed a
-- call of its own that the store refused, from which on it gives back what it has in hand
pub record IsCausedAmong (g : Setting) (want : Want) (p : Program) (k : Known) (events : List Event) : Type 0 where
  pub before : List Event
  pub event : Event
  pub after : List Event
  -- where the program is before it and behind it, and what its seat knows before it
  pub at : Program
  pub known : Known
  pub next : Program
  pub among : events ≡ before ++ event ∷ after
  pub goes : Goes g p k before at known
  pub cause : CauseOf g want at event.answer
  pub happens : (t : State) × (taken g.size event.state (program_turn g event.state at event.choice event.answer) ≡ Some (t, next))
  pub leads : LeadsTo want next.mode

-- what a program of this image runs on in a world, which is this one of its programs, with these objects
abbrev pub setting_with : Share → Image → Setting
setting_with w C = record { size = C.piece; base = w.first; limit = w.first + w.objects; mover = suc w.program; image = C }

-- The end that is told of a program is that to which the program that runs on this comes in a world, from its beginning on, by some events
pub record EndsByEvents (g : Setting) (f : Finished) : Type 0 where
  pub events : List Event
  -- where the program is at last, and what its seat knows then
  pub program : Program
  pub known : Known
  pub goes : Goes g (begun g.image) unused events program known
  pub ended : IsAtEnd g.image program f.end.run
  -- where it wants something, the cause is among these events
  pub caused : (want : Want) → program.mode ≡ Wanted want → IsCausedAmong g want (begun g.image) unused events
  pub completed : program.completed ≡ f.end.completed
  pub printed : output_of program.core ≡ f.end.output.items

-- so is each end that is told of a program that was run on threads, over an honest store
abbrev pub EndsAreEvents : Type 0 → Type 0
EndsAreEvents reliable = (w : Share) (C : Image) (f : Finished) → IsFinishedOver reliable w C f → EndsByEvents (setting_with w C) f
