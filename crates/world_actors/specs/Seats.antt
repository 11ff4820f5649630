-- How a program that code holds is read as one of the definitions.
use Rattle.std.specs.Prelude.{◌≡◌, ℕ, suc, ◌+◌, ◌%◌, ◌≤◌, ◌==◌, cond, Option, None, List, [], ◌∷◌, length, take, replicate}
use Rattle.code_form.specs.declared.touch.Touch.{Touch}
use Rattle.code_form.specs.declared.touch.Touch.TheVariants as touch
use Rattle.code_form.specs.Form.{Image}
use Rattle.code_form.specs.Code.{Core, allocations_of, code, effect, sizes}
use Rattle.code_form.specs.Placed.{pieces}
use Rattle.code_execution.specs.Statuses.{Progress}
use Rattle.code_form.specs.Touches.{resumed, touch_of}
use Rattle.world_actors.specs.declared.program.Eviction.{Eviction as RustEviction}
use Rattle.world_actors.specs.declared.program.Eviction.TheVariants as e
use Rattle.world_actors.specs.declared.program.Mode.{Mode as RustMode}
use Rattle.world_actors.specs.declared.program.Mode.TheVariants as m
use Rattle.world_semantics.specs.declared.hold.Hold.{Hold}
use Rattle.world_semantics.specs.Programs.{Eviction, Copying, Stored, NotStored, Refused, Freed, Mode, Ready, Missing, Bringing, Reading, Filling, Evicting, Releasing, Retreating, Closing, Wanted, Setting}

-- what a program runs on, where its code is, what its scopes hold, where it is within its next instruction, the words that it copies or fills
-- with, and how many instructions it has completed, modulo 2^64
pub record Seat : Type 0 where
  pub setting : Setting
  pub core : Core
  pub holds : List (Option Hold)
  pub mode : RustMode
  pub words : List ℕ
  pub completed : ℕ

-- how far a mover is with moving an object out, by the words that it copies
abbrev pub eviction_of : RustEviction → List ℕ → Eviction
eviction_of (e.Copying o f k) words = Copying o f (take k words)
eviction_of (e.Stored o f) words = Stored o f
eviction_of (e.NotStored o f) words = NotStored o f
eviction_of (e.Refused o f) words = Refused o f
eviction_of (e.Freed f) words = Freed f

-- where a program is within its next instruction, by the words that it copies or fills with
abbrev pub mode_of : RustMode → List ℕ → Mode
mode_of m.Ready words = Ready
mode_of (m.Missing o) words = Missing o
mode_of (m.Bringing o) words = Bringing o
mode_of (m.Reading o f) words = Reading o f
mode_of (m.Filling o f k) words = Filling o f words k
mode_of (m.Clearing o f k) words = Filling o f [] k
mode_of (m.Evicting o x) words = Evicting o (eviction_of x words)
mode_of (m.Releasing o f) words = Releasing o f
mode_of (m.Retreating o) words = Retreating o
mode_of m.Closing words = Closing
mode_of (m.Wanted w) words = Wanted w

-- what the next instruction touches
abbrev pub next_touch : Seat → Touch
next_touch x = touch_of (effect x.setting.image x.core)

-- an instruction that uses a scope, tells a cell or ends the program, or there is none
abbrev pub IsSteady : Touch → Type 0
IsSteady touch.Plain = ⊥
IsSteady (touch.Allocs n) = ⊥
IsSteady touch.Wrong = ⊥
IsSteady _ = Unit {0}

-- the next instruction of a program that brings an object in uses a scope
abbrev pub Waits : RustMode → Touch → Type 0
Waits m.Ready x = Unit {0}
Waits (m.Missing o) x = IsSteady x
Waits (m.Bringing o) x = IsSteady x
Waits (m.Reading o f) x = IsSteady x
Waits (m.Filling o f k) x = IsSteady x
Waits (m.Clearing o f k) x = IsSteady x
Waits (m.Evicting o y) x = IsSteady x
Waits (m.Releasing o f) x = Unit {0}
Waits (m.Retreating o) x = Unit {0}
Waits m.Closing x = Unit {0}
Waits (m.Wanted w) x = Unit {0}

-- allocations, the newest first, take their objects one behind the other, from base on, of pieces of so many cells; next is the object behind them
abbrev pub IsPlaced : ℕ → ℕ → List ℕ → List ℕ → ℕ → Type 0
IsPlaced size base [] [] next = next ≡ base
IsPlaced size base [] (f ∷ fs) next = ⊥
IsPlaced size base (n ∷ older) [] next = ⊥
IsPlaced size base (n ∷ older) (f ∷ fs) next = (next ≡ f + pieces size n) × IsPlaced size base older fs f

-- the first object of allocation r
abbrev pub first_of : List ℕ → ℕ → ℕ
first_of [] r = 0
first_of (f ∷ fs) r = cond (r == suc (length fs)) f (first_of fs r)

-- what is so of every program that code holds: a piece has sixteen cells or more, it copies so many words, its allocations have their objects in
-- its share, and it waits as it should
pub record IsSeat (size base limit : ℕ) (at : Progress) (firsts : List ℕ) (next : ℕ) (mode : RustMode) (words : List ℕ) : Type 0 where
  pub some : 16 ≤ size
  pub wide : length words ≡ size
  pub low : base ≤ next
  pub room : next ≤ limit
  pub small : limit ≤ 16777216
  pub placed : IsPlaced size base (sizes (allocations_of at.core)) firsts next
  pub waits : Waits mode (touch_of (effect at.image at.core))

-- a program at its beginning
abbrev pub begin : Image → ℕ → ℕ → ℕ → Seat
begin image base limit mover = record {
  setting = record { size = image.piece; base = base; limit = limit; mover = mover; image = image };
  core = (code image).start;
  holds = replicate 4 None;
  mode = m.Ready;
  words = replicate image.piece 0;
  completed = 0;
}

-- the next instruction is completed, whose load gave v
abbrev pub finished : Seat → ℕ → Seat
finished x v = record x { core = resumed (effect x.setting.image x.core) x.core v; mode = m.Ready; completed = (x.completed + 1) % 18446744073709551616 }
