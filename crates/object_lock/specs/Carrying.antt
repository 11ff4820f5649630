-- How a step carries the rule from one machine to the next.
use Rattle.std.specs.Prelude.{◌≡◌, ℕ, ◌<◌, ◌++◌, List, length, slice_index_or}
use mathlib.Core.Option.{some}
use lib.ListN.{get_elem?}
use Rattle.atomic_table.specs.Table.{State, Me, Act, Valid, stepped, carried_after}
use Rattle.pointer_word.specs.Machine.{State as Machine}
use Rattle.pointer_word.specs.Calls.{Call}
use Rattle.object_lock.specs.Seats.{Sizes, View}
use Rattle.object_lock.specs.Rule.{Rule}
use Rattle.object_lock.specs.Logs.{act_all}

module _ {S : Type 0} (kept : S → ℕ → List ℕ → Type 0) (there : S → Type 0) (honest : Type 0) (z : Sizes) where
  -- the rule of a table that shows this machine, to which these calls led, and whose objects have these owners
  abbrev pub RuleOf : State S View → Machine → List Call → (ℕ → ℕ) → Type 0
  RuleOf s x calls owner = (r : Rule kept there honest z s) × (r.machine ≡ x) × (r.led.0 ≡ calls) × (r.owner ≡ owner)

  -- An atomic step of the seat `id` on the word `i`, which writes `f` of what it finds: whatever the table is, it carries the rule of the machine to the rule
  -- of the machine that these calls leave, which are the last of those that led to it, and tells the seat `then`
  abbrev pub Carries : ℕ → ℕ → Me S View → ℕ → (ℕ → ℕ) → List Call → (ℕ → Me S View → Type 0) → Type 0
  Carries slots id me i f made then = (s : State S View) (r : Rule kept there honest z s) → length s.homes ≡ slots → get_elem? s.views id ≡ some me.0 → slice_index_or s.words i 0 < 18446744073709551616
      → (w : View) × (a : Act S) × Valid s.homes me.1 a × RuleOf (stepped s i (f (slice_index_or s.words i 0)) id me.1 w a) (act_all r.machine made) (r.led.0 ++ made) r.owner × then (slice_index_or s.words i 0) (w, carried_after me.1 a)
