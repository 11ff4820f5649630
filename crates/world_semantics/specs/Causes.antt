-- Why a program wants something.
use Rattle.std.specs.Prelude.{◌≡◌, ◌⊎◌, ℕ, ◌+◌, ◌<◌, ◌≤◌, true, false, None, Some, List, ◌∷◌, ◌++◌, length}
use Rattle.cells.specs.declared.ending.Want.{Want}
use Rattle.cells.specs.declared.ending.Want.TheVariants.{OutOfMemory, NoObjects, StoreFailed}
use Rattle.code_form.specs.declared.touch.Touch.TheVariants as touch
use Rattle.code_form.specs.Form.{Image}
use Rattle.code_form.specs.Placed.{pieces}
use Rattle.world_semantics.specs.declared.event.Actor.TheVariants as actor
use Rattle.world_semantics.specs.Programs.{Copying, NotStored, Mode, Reading, Evicting, Releasing, Retreating, Closing, Wanted, Program, Setting, next_touch, next_free, may_grow, rest_of}
use Rattle.world_semantics.specs.Turns.{Answer}
use Rattle.world_semantics.specs.Worlds as worlds
use Rattle.world_semantics.specs.Worlds.{Sizes, World, Event, setting, Follows}

-- in this mode the program's own call of the store was refused
abbrev pub HasFailed : Mode → Type 0
HasFailed (Evicting o (NotStored v f)) = Unit {0}
HasFailed (Releasing o f) = Unit {0}
HasFailed (Retreating o) = Unit {0}
HasFailed Closing = Unit {0}
HasFailed (Wanted StoreFailed) = Unit {0}
HasFailed _ = ⊥

-- a program in this mode calls the store, and is refused: a get fails or finds another header, or a put of n words fails
abbrev pub IsRefused : ℕ → Mode → Answer → Type 0
IsRefused n (Reading o f) a = a.read ≡ None
IsRefused n (Evicting o (Copying v f words)) a = (n ≤ length words) × (a.stored ≡ false)
IsRefused n _ a = ⊥

-- memory is refused to an instruction that may take some
abbrev pub LacksMemory : Setting → Program → Answer → Type 0
LacksMemory g p a = (a.grew ≡ false) × (may_grow (next_touch g p) (rest_of p.core) ≡ true)

-- the pieces of the allocation that is next don't fit in the share
abbrev pub LacksObjects : Setting → Program → Type 0
LacksObjects g p = (cells : ℕ) × (next_touch g p ≡ touch.Allocs cells) × (g.limit < next_free g p + pieces g.size cells)

-- The cause of the mode that an event of its own leads a program to. StoreFailed, and what leads to it: the program's own call of
-- the store is refused now, or was before
abbrev pub IsCaused : Setting → Program → Answer → Mode → Type 0
IsCaused g p a (Wanted OutOfMemory) = LacksMemory g p a
IsCaused g p a (Wanted NoObjects) = LacksObjects g p
IsCaused g p a (Wanted StoreFailed) = HasFailed p.mode ⊎ IsRefused g.size p.mode a
IsCaused g p a (Evicting o (NotStored v f)) = HasFailed p.mode ⊎ IsRefused g.size p.mode a
IsCaused g p a (Releasing o f) = HasFailed p.mode ⊎ IsRefused g.size p.mode a
IsCaused g p a (Retreating o) = HasFailed p.mode ⊎ IsRefused g.size p.mode a
IsCaused g p a Closing = HasFailed p.mode ⊎ IsRefused g.size p.mode a
IsCaused g p a _ = Unit {0}

-- why a program wants this, as a program and what nobody knows before its event: StoreFailed where its own call of the store is refused
abbrev pub CauseOf : Setting → Want → Program → Answer → Type 0
CauseOf g OutOfMemory p a = LacksMemory g p a
CauseOf g NoObjects p a = LacksObjects g p
CauseOf g StoreFailed p a = IsRefused g.size p.mode a

-- an event that leads to this mode leads to the want itself; from a refused call of the store on, a program first gives back what it has in hand
abbrev pub LeadsTo : Want → Mode → Type 0
LeadsTo OutOfMemory m = m ≡ Wanted OutOfMemory
LeadsTo NoObjects m = m ≡ Wanted NoObjects
LeadsTo StoreFailed m = Unit {0}

-- among these events, which begin in the world w, one is of program k, is the cause of this want, and leads to it
pub record HasCause (h : Type 0) (z : Sizes) (images : ℕ → Image) (k : ℕ) (want : Want) (w : World) (events : List Event) : Type 0 where
  pub before : List Event
  pub event : Event
  pub after : List Event
  pub at : World
  pub next : World
  pub among : events ≡ before ++ event ∷ after
  pub follows : Follows h z images w before at
  pub own : event.actor ≡ actor.Program k
  pub cause : CauseOf (setting z images k) want (at.programs k) event.answer
  pub happens : worlds.event z images at event ≡ Some next
  pub leads : LeadsTo want (next.programs k).mode
