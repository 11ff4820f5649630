-- What the scopes of a program hold, beside what the scopes of its code's run do.
use Rattle.std.specs.Prelude.{◌≡◌, ◌⊎◌, ℕ, false, Option, Some, None}
use Rattle.cells.specs.declared.ending.Want.TheVariants.{OutOfMemory, NoObjects, StoreFailed}
use Rattle.code_form.specs.declared.touch.Cell.{Cell}
use Rattle.code_form.specs.declared.touch.Touch.{Touch}
use Rattle.code_form.specs.declared.touch.Touch.TheVariants as touch
use Rattle.code_form.specs.Code.{held, is_blocked}
use Rattle.code_form.specs.Touches.{cell_option}
use Rattle.pointer_word.specs.Words.{framed}
use Rattle.pointer_word.specs.Machine.{State}
use Rattle.world_semantics.specs.Programs.{Hold, Mode, Ready, Missing, Bringing, Reading, Filling, Evicting, Releasing, Retreating, Closing, Wanted, Program, Setting, next_touch, object_of, object_or_none, hold_at}

-- the next instruction touches this, and isn't blocked
abbrev pub IsNext : Setting → Program → Touch → Type 0
IsNext g p x = (next_touch g p ≡ x) × (is_blocked p.core ≡ false)

-- an aim of a scope at a cell of the object o is under way, which the scope holds
pub record IsAiming (g : Setting) (p : Program) (o : ℕ) : Type 0 where
  pub scope : ℕ
  pub cell : Cell
  pub is : IsNext g p (touch.Aims scope (Some cell))
  pub object : object_of g p cell ≡ o
  pub holds : hold_at p.holds scope ≡ Some (record { object = o; writes = false })

-- a mode within an aim
abbrev pub AimsIn : Setting → Program → Mode → Type 0
AimsIn g p (Missing o) = IsAiming g p o
AimsIn g p (Bringing o) = IsAiming g p o
AimsIn g p (Reading o f) = IsAiming g p o
AimsIn g p (Filling o f words k) = IsAiming g p o
AimsIn g p (Evicting o e) = IsAiming g p o
AimsIn g p (Releasing o f) = IsAiming g p o
AimsIn g p (Retreating o) = IsAiming g p o
AimsIn g p _ = Unit {0}

-- the object that is held, if one is
abbrev pub object_in : Option Hold → Option ℕ
object_in None = None
object_in (Some h) = Some h.object

-- scope s holds the object of the cell whose piece the scope of the code's run holds, and nothing where that holds none
abbrev pub IsAsCode : Setting → Program → ℕ → Type 0
IsAsCode g p s = object_in (hold_at p.holds s) ≡ object_or_none g p (cell_option (held p.core s))

-- an instruction that touches this shuts scope s before it completes: an aim of that scope, or the end
abbrev pub Shuts : Touch → ℕ → Type 0
Shuts (touch.Aims k w) s = k ≡ s
Shuts touch.Ends s = Unit {0}
Shuts _ s = ⊥

-- the next instruction has shut scope s
abbrev pub IsShut : Setting → Program → ℕ → Type 0
IsShut g p s = (hold_at p.holds s ≡ None) × Shuts (next_touch g p) s

-- an aim at the object o is under way by scope s, which holds it
abbrev pub IsAimed : Setting → Program → ℕ → ℕ → Type 0
IsAimed g p o s = (x : IsAiming g p o) × (x.scope ≡ s)

-- Scope s of a program in a mode holds what the scope of its code's run does, but for what an instruction under way has shut or opened; a program
-- that gives up shuts its scopes, and one whose store failed holds nothing
abbrev pub ScopeFits : Setting → Program → Mode → ℕ → Type 0
ScopeFits g p Ready s = IsAsCode g p s ⊎ IsShut g p s
ScopeFits g p (Missing o) s = IsAsCode g p s ⊎ IsAimed g p o s
ScopeFits g p (Bringing o) s = IsAsCode g p s ⊎ IsAimed g p o s
ScopeFits g p (Reading o f) s = IsAsCode g p s ⊎ IsAimed g p o s
ScopeFits g p (Filling o f words k) s = IsAsCode g p s ⊎ IsAimed g p o s
ScopeFits g p (Evicting o e) s = IsAsCode g p s ⊎ IsAimed g p o s
ScopeFits g p (Releasing o f) s = IsAsCode g p s ⊎ IsAimed g p o s
ScopeFits g p (Retreating o) s = IsAsCode g p s ⊎ IsAimed g p o s
ScopeFits g p Closing s = IsAsCode g p s ⊎ ((hold_at p.holds s ≡ None) ⊎ ((o : ℕ) × IsAimed g p o s))
ScopeFits g p (Wanted OutOfMemory) s = IsAsCode g p s ⊎ IsShut g p s
ScopeFits g p (Wanted NoObjects) s = IsAsCode g p s ⊎ IsShut g p s
ScopeFits g p (Wanted StoreFailed) s = hold_at p.holds s ≡ None

-- the object of a hold is in the frame that its owner was told
abbrev pub IsFramed : State → Hold → Type 0
IsFramed s x = (f : ℕ) × ((s.note x.object).frame ≡ Some f) × (framed (s.word x.object).place ≡ Some f)
