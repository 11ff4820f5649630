-- What a session keeps true between its steps, and what each step leaves.
use Rattle.std.specs.Prelude.{◌≡◌, ◌≢◌, ℕ, suc, ◌+◌, ◌%◌, ◌<◌, ◌≤◌, ◌==◌, Bool, true, false, cond, List, [], ◌∷◌, ◌++◌, length, Option, Some, None, slice_set}
use Rattle.cells.specs.declared.ending.Want.{Want}
use Rattle.cells.specs.declared.ending.Want.TheVariants.{OutOfMemory, NoObjects, StoreFailed}
use Rattle.cells.specs.declared.ending.Run.{Run}
use Rattle.cells.specs.declared.ending.Run.TheVariants.{Running, Stopped, Wanted}
use Rattle.cells.specs.Pieces.{is_piece}
use Rattle.cells.specs.Stops.{stop_of as stop_read}
pub use Rattle.call_execution.specs.Decisions.{is_simple, uses_scope}
use Rattle.code_form.specs.Effects.{upd}
use Rattle.code_form.specs.Code.{effect, stop_of, is_blocked, most_scopes}
use Rattle.code_form.specs.Placed.{pieces}
use Rattle.code_form.specs.Touches.{IsWithin, resumed}
use Rattle.code_form.specs.Tracked.{WaitsShut}
use Rattle.code_form.specs.declared.touch.Touch.{Touch}
use Rattle.code_form.specs.declared.touch.Touch.TheVariants as touch
use Rattle.pointer_word.specs.Hands.{added, blank, closed, writable}
use Rattle.object_lock.specs.Seats.{Owns, View, note, with_note}
use Rattle.session.specs.declared.hold.Hold.{Hold}
use Rattle.object_moves.specs.Taken.{GivesUp, IsQuiet, Refused, Takes}
use Rattle.object_moves.specs.Ways.{ComesByMoves}
use Rattle.session.specs.State.{AllShut, Caused, IsAt, IsGoing, SameProgram, ScopesHold, State, cells_in, hold_at, latest_in, next_touch, object_of, seat_in, stores_of}

-- allocations in pieces of `size` cells, the newest first, take their objects one behind the other, from low on; next is the object behind them
abbrev pub IsPlaced : ℕ → ℕ → List ℕ → List ℕ → ℕ → Type 0
IsPlaced size low [] [] next = next ≡ low
IsPlaced size low [] (f ∷ fs) next = ⊥
IsPlaced size low (n ∷ older) [] next = ⊥
IsPlaced size low (n ∷ older) (f ∷ fs) next = (next ≡ f + pieces size n) × IsPlaced size low older fs f

-- the first object of allocation r
abbrev pub first_of : List ℕ → ℕ → ℕ
first_of [] r = 0
first_of (f ∷ fs) r = cond (r == suc (length fs)) f (first_of fs r)

-- one where the hold is of the object
abbrev pub one : ℕ → Option Hold → ℕ
one o None = 0
one o (Some h) = cond (h.object == o) 1 0

-- how many scopes hold an object
abbrev pub count_of : ℕ → List (Option Hold) → ℕ
count_of o [] = 0
count_of o (h ∷ hs) = one o h + count_of o hs

-- what is known of an object that a scope holds
pub record IsHeld (v : View) (h : Hold) : Type 0 where
  pub owns : Owns v h.object
  pub here : (note v h.object).frame ≡ Some h.frame
  pub room : h.frame < v.sizes.frames
  pub writing : h.writes ≡ true → (note v h.object).writing ≡ true

-- the seat's open holds are those of the scopes, and the allocations have their objects
pub record IsHolding (s : State) : Type 0 where
  pub low : s.view.low ≤ s.next
  pub room : s.next ≤ s.view.high
  pub wide : s.view.high ≤ length s.view.notes
  pub small : s.view.high ≤ 16777216
  pub cells : is_piece s.view.sizes.cells ≡ true
  pub placed : IsPlaced s.view.sizes.cells s.view.low (cells_in s) s.firsts s.next
  pub held : (k : ℕ) (h : Hold) → hold_at s.holds k ≡ Some h → IsHeld s.view h
  pub counted : (o : ℕ) → Owns s.view o → count_of o s.holds ≡ (note s.view o).count
  pub four : length s.holds ≡ 4
  pub few : most_scopes s.image.functions ≤ 4
  pub quiet : IsQuiet s.view

-- between instructions: the scopes hold what the program's do
pub record IsSafe (s : State) : Type 0 where
  pub holding : IsHolding s
  pub scopes : ScopesHold s
  pub waits : WaitsShut s.core

-- a session between instructions, which is where the run of its code is if the store is honest
pub record IsRun (honest : Type 0) (s : State) : Type 0 where
  pub safe : IsSafe s
  pub at : honest → IsAt s

-- a session as its caller has it: where its store failed, it has shut its scopes
pub record IsSession (honest : Type 0) (s : State) : Type 0 where
  pub holding : IsHolding s
  pub at : honest → IsAt s
  pub live : s.want ≢ Some StoreFailed → IsRun honest s
  pub failed : s.want ≡ Some StoreFailed → AllShut s

-- what the next instruction touches, which isn't blocked
pub record IsNext (x : Touch) (s : State) : Type 0 where
  pub is : next_touch s ≡ x
  pub free : is_blocked s.core ≡ false
  pub within : IsWithin (most_scopes s.image.functions) s.core x

-- what the latest stores became
abbrev pub Stores : Touch → State → State → Type 0
Stores (touch.Stores k a v) s t = (o i : ℕ) → latest_in t.view o i ≡ upd (latest_in s.view) (object_of s a) (upd (latest_in s.view (object_of s a)) (a.index % s.view.sizes.cells) v) o i
Stores _ s t = (o i : ℕ) → latest_in t.view o i ≡ latest_in s.view o i

-- what was loaded
abbrev pub Loads : Touch → State → ℕ → Type 0
Loads (touch.Loads k a) s w = w ≡ latest_in s.view (object_of s a) (a.index % s.view.sizes.cells)
Loads _ s w = Unit {0}

-- one instruction, which touches x, was completed
pub record Moves (honest : Type 0) (x : Touch) (s t : State) : Type 0 where
  pub image : t.image ≡ s.image
  pub want : t.want ≡ s.want
  pub refusals : t.refusals ≡ s.refusals
  pub value : ℕ
  pub core : t.core ≡ resumed (effect s.image s.core) s.core value
  pub loads : honest → Loads x s value
  pub stores : Stores x s t
  pub added : (o : ℕ) → (note t.view o).history ≡ (note s.view o).history ++ stores_of s.view.sizes.cells s.view.low (cells_in s) o x
  pub low : t.view.low ≡ s.view.low
  pub high : t.view.high ≡ s.view.high
  pub seat : seat_in t ≡ seat_in s
  pub completed : t.completed ≡ s.completed + 1

-- the state with a scope shut that held x
abbrev pub shut_at : State → ℕ → Option Hold → State
shut_at s k None = s
shut_at s k (Some h) = record s { holds = slice_set s.holds k None; view = with_note s.view h.object (closed (note s.view h.object)) }

-- the state with a scope shut
abbrev pub shut : State → ℕ → State
shut s k = shut_at s k (hold_at s.holds k)

-- the hold of the object o in the frame f
abbrev pub a_hold : ℕ → ℕ → Bool → Hold
a_hold o f w = record { object = o; frame = f; writes = w }

-- a scope that held nothing holds the object o, and how its seat came to that
pub record Holds (k o : ℕ) (s t : State) : Type 0 where
  pub frame : ℕ
  pub takes : Takes o s.view t.view frame
  pub came : ComesByMoves o (Some frame) s.view.hand.past t.view.hand.past
  pub same : t ≡ record s { holds = slice_set s.holds k (Some (a_hold o frame false)); view = t.view }

-- the scope that holds h may write
abbrev pub cleared : State → ℕ → Hold → State
cleared s k h = record s { holds = slice_set s.holds k (Some (a_hold h.object h.frame true)); view = with_note s.view h.object (writable (note s.view h.object)) }

-- v was stored at place i of the object that is held
abbrev pub written : State → Hold → ℕ → ℕ → State
written s h i v = record s { view = with_note s.view h.object (added (note s.view h.object) i v) }

-- the instruction is done, whose load gave v
abbrev pub finished : State → ℕ → State
finished s v = record s { core = resumed (effect s.image s.core) s.core v; completed = s.completed + 1 }

-- the allocation of n cells is done
abbrev pub extended : State → ℕ → State
extended s n = record s { core = resumed (effect s.image s.core) s.core 0; firsts = s.next ∷ s.firsts; next = s.next + pieces s.view.sizes.cells n; completed = s.completed + 1 }

-- the program wants something
abbrev pub wants : State → Want → State
wants s w = record s { want = Some w }

-- one scope's hold changed, and nothing was stored
pub record Changes (k : ℕ) (s t : State) : Type 0 where
  pub image : t.image ≡ s.image
  pub core : t.core ≡ s.core
  pub firsts : t.firsts ≡ s.firsts
  pub next : t.next ≡ s.next
  pub completed : t.completed ≡ s.completed
  pub want : t.want ≡ s.want
  pub refusals : t.refusals ≡ s.refusals
  pub low : t.view.low ≡ s.view.low
  pub high : t.view.high ≡ s.view.high
  pub seat : seat_in t ≡ seat_in s
  pub stored : (o : ℕ) → (note t.view o).history ≡ (note s.view o).history
  pub others : (j : ℕ) → j ≢ k → hold_at t.holds j ≡ hold_at s.holds j
  pub many : length t.holds ≡ length s.holds

-- scopes were shut, and nothing was stored
pub record Closes (s t : State) : Type 0 where
  pub image : t.image ≡ s.image
  pub core : t.core ≡ s.core
  pub firsts : t.firsts ≡ s.firsts
  pub next : t.next ≡ s.next
  pub completed : t.completed ≡ s.completed
  pub want : t.want ≡ s.want
  pub refusals : t.refusals ≡ s.refusals
  pub low : t.view.low ≡ s.view.low
  pub high : t.view.high ≡ s.view.high
  pub seat : seat_in t ≡ seat_in s
  pub stored : (o : ℕ) → (note t.view o).history ≡ (note s.view o).history

-- The store refused a call: nothing else changed but holds that were shut
abbrev pub Fails : Type 0 → State → State → Type 0
Fails reliable s t = Closes (record s { refusals = t.refusals }) t × Refused reliable s.refusals t.refusals

-- every scope was shut, and the session wants StoreFailed
abbrev pub Halts : State → State → Type 0
Halts s t = Closes (record s { want = Some StoreFailed }) t × AllShut t

-- a hold of the object o was opened and closed again, as the store refused a call, and what its seat did meanwhile
pub record Misses (reliable : Type 0) (o : ℕ) (s t : State) : Type 0 where
  pub gives : GivesUp o s.view t.view
  pub came : ComesByMoves o None s.view.hand.past t.view.hand.past
  pub refused : Refused reliable s.refusals t.refusals
  pub same : t ≡ record s { view = t.view; refusals = t.refusals }

-- the hold is of this object
abbrev pub has_object : Option Hold → ℕ → Bool
has_object None o = false
has_object (Some h) o = h.object == o

-- scope k holds the object o
abbrev pub HoldsObject : State → ℕ → ℕ → Type 0
HoldsObject s k o = (h : Hold) × (hold_at s.holds k ≡ Some h) × (h.object ≡ o)

-- the scope that held h may write
abbrev pub HasWriter : State → ℕ → Hold → Type 0
HasWriter s k h = hold_at s.holds k ≡ Some (a_hold h.object h.frame true)

-- one instruction: what is answered is so
abbrev pub Went : Type 0 → State → State → Run → Type 0
Went reliable s t Running = SameProgram s t × (t.completed ≡ s.completed + 1) × IsGoing t × (t.refusals ≡ s.refusals)
Went reliable s t (Stopped x) = SameProgram s t × (t.completed ≡ s.completed + 1) × (stop_of t.core ≡ Some (stop_read x)) × (t.refusals ≡ s.refusals)
Went reliable s t (Wanted w) = SameProgram s t × (t.completed ≡ s.completed) × (t.want ≡ Some w) × (stop_of t.core ≡ None) × Caused reliable s.refusals t w

-- n instructions were completed, and the program goes on
abbrev pub WentOn : ℕ → State → State → Type 0
WentOn n s t = SameProgram s t × (t.completed ≡ s.completed + n) × IsGoing t × (t.refusals ≡ s.refusals)

-- why an allocation of n cells wants something
abbrev pub AllocCause : State → ℕ → Want → Type 0
AllocCause s n NoObjects = s.view.high < s.next + pieces s.view.sizes.cells n
AllocCause s n OutOfMemory = s.next + pieces s.view.sizes.cells n ≤ s.view.high
AllocCause s n StoreFailed = ⊥

-- an allocation of n cells was made, or something is wanted and nothing changed
abbrev pub Allocated : Type 0 → ℕ → State → State → Option Want → Type 0
Allocated honest n s t None = IsSafe t × Moves honest (touch.Allocs n) s t
Allocated honest n s t (Some w) = (t ≡ s) × AllocCause s n w

-- what a seat knows as it is given out: no stores, no holds, nothing in hand
pub record IsBlank (v : View) : Type 0 where
  pub notes : (o : ℕ) → note v o ≡ blank
  pub low : v.low ≤ v.high
  pub wide : v.high ≤ length v.notes
  pub small : v.high ≤ 16777216
  pub cells : is_piece v.sizes.cells ≡ true
  pub quiet : IsQuiet v

-- one instruction, which touches x, was completed; or the store refused a call
abbrev pub Made : Type 0 → Type 0 → Touch → State → State → Bool → Type 0
Made honest reliable x s t true = IsSafe t × Moves honest x s t
Made honest reliable x s t false = IsHolding t × Fails reliable s t
