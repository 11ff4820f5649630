-- What the rule of a table says of the steps of all its seats at once.
use Rattle.std.specs.Prelude.{◌≡◌, ℕ, ◌<◌, ◌≤◌, List, [], length, slice_index_or}
use mathlib.Core.Option.{some}
use lib.ListN.{get_elem?}
use Rattle.atomic_table.specs.Table.{State}
use Rattle.pointer_word.specs.Words.{pack}
use Rattle.pointer_word.specs.Machine.{State as Machine, opening}
use Rattle.pointer_word.specs.Calls.{Runs}
use Rattle.object_lock.specs.Seats.{Owns, Sizes}
use Rattle.object_lock.specs.Logs.{AreOwn, AreOwners, Deed, Seated, Follows, calls_of, log_of}
use Rattle.object_lock.specs.Rule.{LoggedRule}
use Rattle.object_lock.specs.Plays.{IsPart}

-- One machine, which the words of the table's objects show; one list of steps, each at the word of its calls and by the seat that they name, which found what the machine showed then, and whose calls might be made and led there from
-- the opening machine; and of each seat of the table its log is its part of this list, in order, and what it did with each object, and as a mover, is that of these calls. Each step that is
-- kept is one of these seats'
pub record HasOneList {S : Type 0} (honest : Type 0) (z : Sizes) (s : State S Seated) : Type 0 where
  pub machine : Machine
  pub steps : List (ℕ × Deed)
  pub led : Runs honest z.cells opening (calls_of steps) machine
  pub follows : Follows z opening steps machine
  pub own : AreOwn z steps
  -- which seat owns each object, and that it alone made its owner's calls that are kept
  pub owner : ℕ → ℕ
  pub owned : (j : ℕ) (v : Seated) → get_elem? s.views j ≡ some v → (o : ℕ) → Owns v.view o → owner o ≡ j
  pub owners : AreOwners owner steps
  pub logs : (j : ℕ) (v : Seated) → get_elem? s.views j ≡ some v → v.log ≡ log_of j steps
  pub none : (j : ℕ) → length s.views ≤ j → log_of j steps ≡ []
  pub parts : (j : ℕ) (v : Seated) → get_elem? s.views j ≡ some v → IsPart v.view (calls_of steps)
  pub words : (o : ℕ) → o < z.objects → slice_index_or s.words o 0 ≡ pack (machine.word o)

-- whatever a table is, its rule says so of it
abbrev pub OneList : {S : Type 0} → (S → ℕ → List ℕ → Type 0) → (S → Type 0) → Type 0 → Type 0
OneList {S} kept there honest = (z : Sizes) (s : State S Seated) → LoggedRule kept there honest z s → HasOneList honest z s
