-- What a session is to its caller, and where its code run is.
use Rattle.std.specs.Prelude.{◌≡◌, ◌⊎◌, ℕ, zero, suc, ◌+◌, ◌%◌, ◌<◌, ◌≤◌, ◌==◌, true, cond, List, [], ◌∷◌, ◌++◌, Option, Some, None, slice_index_or, replicate}
use Rattle.atomic_table.specs.Seated.{TableId}
use Rattle.cells.specs.declared.ending.Want.{Want}
use Rattle.cells.specs.declared.ending.Want.TheVariants.{OutOfMemory, NoObjects, StoreFailed}
use Rattle.cells.specs.declared.ending.Run.{Run}
use Rattle.cells.specs.declared.ending.Run.TheVariants.{Running, Stopped, Wanted}
use Rattle.cells.specs.Stops.{stop_of as stop_read}
use Rattle.code_form.specs.Form.{Image}
use Rattle.code_form.specs.Effects.{code_run}
use Rattle.code_form.specs.Code.{Core, sizes, allocations_of, effect, code, held, stop_of, is_blocked}
use Rattle.code_form.specs.Growth.{has_text, may_grow, rest_of}
use Rattle.code_form.specs.Placed.{SameHeap, next_object, object_at, pieces}
use Rattle.code_form.specs.Touches.{cell_option, touch_of}
use Rattle.code_form.specs.declared.touch.Cell.{Cell}
use Rattle.code_form.specs.declared.touch.Touch.{Touch}
use Rattle.code_form.specs.declared.touch.Touch.TheVariants as touch
use Rattle.pointer_word.specs.Hands.{latest_of}
use Rattle.object_lock.specs.Logs.{Deed}
use Rattle.object_lock.specs.Seats.{View, note}
use Rattle.session.specs.declared.hold.Hold.{Hold}
use Rattle.object_moves.specs.Taken.{Refused, seat_of}
use Rattle.remote_store.specs.declared.port.Refusals.{Refusals}

-- A session: its image, where its program is, what each scope holds, the first object of each allocation, the newest first, the next
-- object, which table its seat is of and what it knows, what was refused through its port, how many instructions were completed, and what it
-- wants if it wants anything
pub record State : Type 0 where
  pub image : Image
  pub core : Core
  pub holds : List (Option Hold)
  pub firsts : List ℕ
  pub next : ℕ
  pub table : TableId
  pub view : View
  pub refusals : Refusals
  pub completed : ℕ
  pub want : Option Want

-- the number of cells of each allocation, the newest first
abbrev pub cells_in : State → List ℕ
cells_in s = sizes (allocations_of s.core)

-- the latest store at place i of object o, as its owner knows; 0 where nothing was stored
abbrev pub latest_in : View → ℕ → ℕ → ℕ
latest_in v o i = latest_of (note v o).history i

-- what an instruction that touches this stores in the object o, each with its place there: of a program in pieces of so many cells, whose objects begin at low, and whose
-- allocations have these numbers of cells
abbrev pub stores_of : ℕ → ℕ → List ℕ → ℕ → Touch → List (ℕ × ℕ)
stores_of size low cells o (touch.Stores k a v) = cond (o == object_at size low cells a.reference a.index) ((a.index % size, v) ∷ []) []
stores_of size low cells o _ = []

-- what the first n instructions of an image's run store in it, in their order
abbrev pub stores_in : ℕ → Image → ℕ → ℕ → ℕ → List (ℕ × ℕ)
stores_in size C low zero o = []
stores_in size C low (suc n) o = stores_in size C low n o ++ stores_of size low (sizes (allocations_of (code_run (code C) n).0)) o (touch_of (effect C (code_run (code C) n).0))

-- the object of a cell
abbrev pub object_of : State → Cell → ℕ
object_of s a = object_at s.view.sizes.cells s.view.low (cells_in s) a.reference a.index

-- what the next instruction touches
abbrev pub next_touch : State → Touch
next_touch s = touch_of (effect s.image s.core)

-- what scope k holds
abbrev pub hold_at : List (Option Hold) → ℕ → Option Hold
hold_at hs k = slice_index_or hs k None

-- every scope holds nothing
abbrev pub AllShut : State → Type 0
AllShut s = (k : ℕ) → hold_at s.holds k ≡ None

-- a hold is of the object of this cell, and there is none where there is no cell
abbrev pub Matches : State → Option Cell → Option Hold → Type 0
Matches s None None = Unit {0}
Matches s None (Some h) = ⊥
Matches s (Some a) None = ⊥
Matches s (Some a) (Some h) = h.object ≡ object_of s a

-- each scope holds the piece of the cell that its program's scope has, and nothing where that has none
abbrev pub ScopesHold : State → Type 0
ScopesHold s = (k : ℕ) → Matches s (cell_option (held s.core k)) (hold_at s.holds k)

-- The session's program is where the run of its code is, its objects fit in its share, and its cells are the latest stores. What was stored in each object is what the
-- instructions of that run stored that it completed, in their order. Before each of these the code had not stopped
pub record IsAt (s : State) : Type 0 where
  pub core : s.core ≡ (code_run (code s.image) s.completed).0
  pub going : (n : ℕ) → n < s.completed → stop_of (code_run (code s.image) n).0 ≡ None
  pub fits : next_object s.view.sizes.cells s.view.low (cells_in s) ≤ s.view.high
  pub heap : SameHeap s.view.sizes.cells s.view.low s.view.high (cells_in s) (latest_in s.view) (code_run (code s.image) s.completed).1
  pub stored : (o : ℕ) → (note s.view o).history ≡ stores_in s.view.sizes.cells s.image s.view.low s.completed o

-- the program has not stopped, and wants nothing
abbrev pub IsGoing : State → Type 0
IsGoing s = (stop_of s.core ≡ None) × (s.want ≡ None)

-- the code is stuck, or needs all scopes shut where one is open
abbrev pub IsHalted : State → Type 0
IsHalted s = (next_touch s ≡ touch.Wrong) ⊎ ((next_touch s ≡ touch.Nothing) ⊎ (is_blocked s.core ≡ true))

-- the pieces of an allocation that is touched fit in what is left of the share
abbrev pub HasRoom : State → Touch → Type 0
HasRoom s (touch.Allocs n) = next_object s.view.sizes.cells s.view.low (cells_in s) + pieces s.view.sizes.cells n ≤ s.view.high
HasRoom s _ = Unit {0}

-- Why a want is answered, where these calls had been refused before. NoObjects: the pieces of the allocation that is next don't fit in
-- what is left of the share. OutOfMemory: memory was refused to an instruction for which it may have to grow, and an allocation's pieces would fit. StoreFailed: one call was refused through the session's own port;
-- or none was, and the code is halted, which is never so over an honest store
abbrev pub Caused : Type 0 → Refusals → State → Want → Type 0
Caused reliable before s NoObjects = (s.refusals ≡ before) × ((n : ℕ) × (next_touch s ≡ touch.Allocs n) × (s.view.high < next_object s.view.sizes.cells s.view.low (cells_in s) + pieces s.view.sizes.cells n))
Caused reliable before s OutOfMemory = (s.refusals ≡ before) × (may_grow (next_touch s) (rest_of s.core) ≡ true) × HasRoom s (next_touch s)
Caused reliable before s StoreFailed = Refused reliable before s.refusals ⊎ ((s.refusals ≡ before) × IsHalted s)

-- which table its seat is of, and what it knows from when it was made
abbrev pub seat_in : State → TableId × View
seat_in s = (s.table, seat_of s.view)

-- The program is the same, and so is what its seat knows from when it was made: its table's numbers, its own number, how many objects each program has, and its own
-- objects; and it is a seat of the same table
abbrev pub SameProgram : State → State → Type 0
SameProgram s t = (t.image ≡ s.image) × (t.view.low ≡ s.view.low) × (t.view.high ≡ s.view.high) × (seat_in t ≡ seat_in s)

-- from the one number of completed instructions to the other at most n more were completed
abbrev pub CompletesUpTo : ℕ → ℕ → ℕ → Type 0
CompletesUpTo n before after = (before ≤ after) × (after ≤ before + n)

-- A run of at most n instructions from s to t: what it answers is so, and it answers a want for a cause. No call is refused through the session's
-- port but one for which it wants StoreFailed
abbrev pub Ran : Type 0 → ℕ → State → State → Run → Type 0
Ran reliable n s t Running = SameProgram s t × (t.completed ≡ s.completed + n) × IsGoing t × (t.refusals ≡ s.refusals)
Ran reliable n s t (Stopped x) = SameProgram s t × CompletesUpTo n s.completed t.completed × (stop_of t.core ≡ Some (stop_read x)) × (t.refusals ≡ s.refusals)
Ran reliable n s t (Wanted w) = SameProgram s t × CompletesUpTo n s.completed t.completed × (t.want ≡ Some w) × (stop_of t.core ≡ None) × (IsGoing s → Caused reliable s.refusals t w)

-- a program that had stopped by an error, for whose text memory is refused: that is answered alone, and nothing is changed
abbrev pub IsUntold : State → State → Run → Type 0
IsUntold s t r = (t ≡ s) × (has_text (stop_of s.core) ≡ true) × (r ≡ Wanted OutOfMemory)

-- a session at its beginning
abbrev pub begin : TableId → Image → View → Refusals → State
begin t C v n = record { image = C; core = (code C).start; holds = replicate 4 None; firsts = []; next = v.low; table = t; view = v; refusals = n; completed = 0; want = None }

-- a session, and what its seat did, step by step
pub record Logged : Type 0 where
  pub state : State
  pub log : List Deed

-- the same steps, and this state
abbrev pub with_state : Logged → State → Logged
with_state s t = record { state = t; log = s.log }
