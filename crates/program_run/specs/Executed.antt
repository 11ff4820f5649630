-- How the run of an image ends.
use Rattle.std.specs.Prelude.{◌≡◌, ◌<◌, ◌≤◌, ◌+◌, ℕ, true, List, Some, None, IsSome}
use Rattle.cells.specs.declared.ending.Run.{Run}
use Rattle.cells.specs.declared.ending.Run.TheVariants.{Running, Stopped, Wanted}
use Rattle.cells.specs.declared.ending.Ended.{Ended}
use Rattle.cells.specs.declared.ending.Want.{Want}
use Rattle.cells.specs.declared.ending.Want.TheVariants.{OutOfMemory, NoObjects, StoreFailed}
use Rattle.cells.specs.Stops.{stop_of as stop_read}
use Rattle.code_form.specs.Form.{Image}
use Rattle.code_form.specs.Effects.{code_run}
use Rattle.code_form.specs.Code.{Core, allocations_of, code, effect, output_of, sizes, stop_of}
use Rattle.code_form.specs.Growth.{may_grow, rest_of}
use Rattle.code_form.specs.Placed.{next_object, pieces}
use Rattle.code_form.specs.Touches.{touch_of}
use Rattle.code_form.specs.declared.touch.Touch.TheVariants.{Allocs}
use Rattle.remote_store.specs.Refusing.{no_refusals}
use Rattle.remote_store.specs.declared.port.Refusals.{Refusals}
use Rattle.session.specs.State.{Caused, CompletesUpTo, IsGoing, State}
use Rattle.program_run.specs.Acting.{IsActedOver, Share}
use Rattle.program_run.specs.declared.run.Finished.{Finished}

-- the next instruction allocates this many cells
abbrev pub AllocatesNext : Image → Core → ℕ → Type 0
AllocatesNext C c n = touch_of (effect C c) ≡ Allocs n

-- the number of objects that allocations of an image take: one for each piece
abbrev pub objects_of : Image → List ℕ → ℕ
objects_of C cells = next_object C.piece 0 cells

-- an allocation that is next takes no more objects in all than there are
abbrev pub HasRoom : ℕ → Image → Core → Type 0
HasRoom objects C c = (n : ℕ) → AllocatesNext C c n → objects_of C (sizes (allocations_of c)) + pieces C.piece n ≤ objects

-- why a program wants something: its next instruction is an allocation, which would take more objects in all than there are; or memory
-- may have to grow for its next instruction, which takes no more objects than there are, and a growth was refused; or the store, which
-- is not reliable, failed
abbrev pub WantsFor : Type 0 → ℕ → Image → Core → Want → Type 0
WantsFor reliable objects C c NoObjects = (n : ℕ) × AllocatesNext C c n × (objects < objects_of C (sizes (allocations_of c)) + pieces C.piece n)
WantsFor reliable objects C c OutOfMemory = (may_grow (touch_of (effect C c)) (rest_of c) ≡ true) × HasRoom objects C c
WantsFor reliable objects C c StoreFailed = reliable → ⊥

-- the program has stopped so, or has not stopped and wants this
abbrev pub EndsAs : Type 0 → ℕ → Image → Core → Run → Type 0
EndsAs reliable objects C c Running = ⊥
EndsAs reliable objects C c (Stopped x) = stop_of c ≡ Some (stop_read x)
EndsAs reliable objects C c (Wanted w) = (stop_of c ≡ None) × WantsFor reliable objects C c w

-- a session at its end, of which these calls had been refused at its beginning: its program has stopped so, or wants this for a cause
abbrev pub IsOver : Type 0 → Refusals → State → Run → Type 0
IsOver reliable before t Running = ⊥
IsOver reliable before t (Stopped x) = stop_of t.core ≡ Some (stop_read x)
IsOver reliable before t (Wanted w) = (stop_of t.core ≡ None) × Caused reliable before t w

-- a session that was going on was run on from s to t: it goes on after n instructions more, or is at its end after at most so many
abbrev pub HasRunOn : Type 0 → ℕ → State → State → Run → Type 0
HasRunOn reliable n s t Running = (t.completed ≡ s.completed + n) × IsGoing t × (t.refusals ≡ s.refusals)
HasRunOn reliable n s t (Stopped x) = CompletesUpTo n s.completed t.completed × IsOver reliable s.refusals t (Stopped x)
HasRunOn reliable n s t (Wanted w) = CompletesUpTo n s.completed t.completed × IsOver reliable s.refusals t (Wanted w)

-- What was printed, and how the program ended, over so many objects and a store that is reliable or not, are those of the code's run after the instructions
-- that were completed, before each of which it had not stopped, and which took no more objects than there are
pub record IsExecutedOver (reliable : Type 0) (objects : ℕ) (C : Image) (e : Ended) : Type 0 where
  pub going : (n : ℕ) → n < e.completed → stop_of (code_run (code C) n).0 ≡ None
  pub few : objects_of C (sizes (allocations_of (code_run (code C) e.completed).0)) ≤ objects
  pub output : e.output.items ≡ output_of (code_run (code C) e.completed).0
  pub ends : EndsAs reliable objects C (code_run (code C) e.completed).0 e.run

-- the same over a reliable store
abbrev pub IsExecuted : ℕ → Image → Ended → Type 0
IsExecuted objects C e = IsExecutedOver (Unit {0}) objects C e

-- what was refused through the port of a program that runs or ends so: one call, which is told, where it wants the store, and else none
abbrev pub HasRefused : Run → Refusals → Type 0
HasRefused Running r = r ≡ no_refusals
HasRefused (Stopped x) r = r ≡ no_refusals
HasRefused (Wanted NoObjects) r = r ≡ no_refusals
HasRefused (Wanted OutOfMemory) r = r ≡ no_refusals
HasRefused (Wanted StoreFailed) r = (r.count ≡ 1) × IsSome r.last

-- The same of an end that is told with what was refused through the program's own port: one call was, exactly where the program wants the store. It is what its session came to
-- by what it did, instruction by instruction, in all its turns, at the seat of this program and with these objects
pub record IsFinishedOver (reliable : Type 0) (w : Share) (C : Image) (f : Finished) : Type 0 where
  pub executed : IsExecutedOver reliable w.objects C f.end
  pub own : HasRefused f.end.run f.refusals
  pub acted : IsActedOver reliable w C f
