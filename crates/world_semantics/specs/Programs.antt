-- The actors of the world: programs, and movers that move objects out.
use Rattle.std.specs.Prelude.{ℕ, suc, Option, Some, None, List, [], ◌∷◌, slice_index_or, slice_set}
use Rattle.cells.specs.declared.ending.Want.{Want}
use Rattle.code_form.specs.declared.touch.Cell.{Cell}
use Rattle.code_form.specs.declared.touch.Touch.{Touch}
use Rattle.code_form.specs.Form.{Image}
use Rattle.code_form.specs.Code.{Core, sizes, allocations_of, code, effect}
pub use Rattle.code_form.specs.Growth.{may_grow, rest_of}
use Rattle.code_form.specs.Placed.{next_object, object_at}
use Rattle.code_form.specs.Touches.{resumed, touch_of}
pub use Rattle.world_semantics.specs.declared.hold.Hold.{Hold}

-- how far a mover is that moves an object out of a frame
pub data Eviction : Type 0 where
  -- it copies the cells, and has found these words so far
  Copying : (object frame : ℕ) → (words : List ℕ) → Eviction
  -- the store has the words
  Stored : (object frame : ℕ) → Eviction
  -- the store failed
  NotStored : (object frame : ℕ) → Eviction
  -- the object was held or written meanwhile
  Refused : (object frame : ℕ) → Eviction
  -- the object is away, and the frame is not released yet
  Freed : (frame : ℕ) → Eviction

-- where a program is within its next instruction
pub data Mode : Type 0 where
  -- it has nothing in hand, and waits for no object
  Ready : Mode
  -- its aim has opened a hold of this object, which it found in no frame
  Missing : (object : ℕ) → Mode
  -- it brings the object in, and seeks a frame
  Bringing : (object : ℕ) → Mode
  -- it has claimed the frame, and is to read the store
  Reading : (object frame : ℕ) → Mode
  -- it fills the frame with these words, and has filled so many cells
  Filling : (object frame : ℕ) → (words : List ℕ) → (cells : ℕ) → Mode
  -- it moves another object out, for the sake of the frame
  Evicting : (object : ℕ) → Eviction → Mode
  -- its store failed, and it gives up the frame that it claimed; the object that it brings in; its holds
  Releasing : (object frame : ℕ) → Mode
  Retreating : (object : ℕ) → Mode
  Closing : Mode
  -- it wants something, and goes on no more
  Wanted : Want → Mode

-- A program: where its code is, what each scope holds, where it is within its next instruction, and how many instructions it has completed
pub record Program : Type 0 where
  pub core : Core
  pub holds : List (Option Hold)
  pub mode : Mode
  pub completed : ℕ

-- what a program runs on: the cells of a piece, its first object and the one behind its last, its number as a mover, and its image
pub record Setting : Type 0 where
  pub size : ℕ
  pub base : ℕ
  pub limit : ℕ
  pub mover : ℕ
  pub image : Image

-- a program at its beginning
abbrev pub begun : Image → Program
begun image = record { core = (code image).start; holds = None ∷ None ∷ None ∷ None ∷ []; mode = Ready; completed = 0 }

-- what the next instruction touches
abbrev pub next_touch : Setting → Program → Touch
next_touch g p = touch_of (effect g.image p.core)

-- the number of cells of each allocation, the newest first
abbrev pub cells_in : Program → List ℕ
cells_in p = sizes (allocations_of p.core)

-- the object of a cell
abbrev pub object_of : Setting → Program → Cell → ℕ
object_of g p x = object_at g.size g.base (cells_in p) x.reference x.index

-- the object of a cell, where there is one
abbrev pub object_or_none : Setting → Program → Option Cell → Option ℕ
object_or_none g p None = None
object_or_none g p (Some x) = Some (object_of g p x)

-- the object behind those of the allocations
abbrev pub next_free : Setting → Program → ℕ
next_free g p = next_object g.size g.base (cells_in p)

-- what scope k holds
abbrev pub hold_at : List (Option Hold) → ℕ → Option Hold
hold_at hs k = slice_index_or hs k None

-- scope k holds this
abbrev pub holding : Program → ℕ → Option Hold → Program
holding p k h = record p { holds = slice_set p.holds k h }

-- the program in this mode
abbrev pub in_mode : Program → Mode → Program
in_mode p m = record p { mode = m }

-- the next instruction is completed, whose load gave v
abbrev pub finished : Setting → Program → ℕ → Program
finished g p v = record p { core = resumed (effect g.image p.core) p.core v; mode = Ready; completed = suc p.completed }

-- a scope and what it holds, one scope further
abbrev pub behind : Option (ℕ × Hold) → Option (ℕ × Hold)
behind None = None
behind (Some q) = Some (suc q.0, q.1)

-- the lowest scope that holds something
abbrev pub first_hold : List (Option Hold) → Option (ℕ × Hold)
first_hold [] = None
first_hold (None ∷ hs) = behind (first_hold hs)
first_hold (Some h ∷ hs) = Some (0, h)
