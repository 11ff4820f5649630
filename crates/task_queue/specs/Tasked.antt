-- The rule of the queue of tasks.
use Rattle.std.specs.Prelude.{◌≡◌, ◌⊎◌, ◌<◌, ◌+◌, ◌*◌, ℕ, List, [], ◌∷◌, Option, Some, None, All, length, false}
use mathlib.Core.Option.{some}
use lib.ListN.{get_elem?}
use Rattle.object_lock.specs.SeatViews.{TableView}
use Rattle.program_run.specs.Runs.{RunView}
use Rattle.scope_verifier.specs.declared.acceptance.Verified.{Verified}
use Rattle.task_queue.specs.declared.rule.KnowsRoster.{KnowsRoster}
use Rattle.task_queue.specs.declared.rule.Roster.{Roster}

-- these programs, with so many objects each, at seats of this table
abbrev pub roster : TableView → List Verified → ℕ → Roster
roster table programs objects = record { programs = programs; objects = objects; table = table }

-- the roster of which a program that is run is
abbrev pub roster_of : RunView → Roster
roster_of p = roster p.table p.programs p.objects

-- what a pass knows that has so many tasks in hand
abbrev pub knows : Roster → ℕ → KnowsRoster
knows r n = record { roster = Some r; in_hand = n }

-- the first pass, before the roster is known
abbrev pub unknown : KnowsRoster
unknown = record { roster = None; in_hand = 0 }

-- of no table
abbrev pub no_table : TableView
no_table = record { id = record { words = 0; slots = 0; views_name = 0; atom = 0; block = 0; offset = 0; slot_names = [] }; sizes = record { objects = 0; frames = 0; cells = 0; seats = 0 } }

-- this roster, or one without programs
abbrev pub roster_or_none : Option Roster → Roster
roster_or_none None = roster no_table [] 0
roster_or_none (Some r) = r

-- the roster that a pass knows, or one without programs
abbrev pub roster_in : KnowsRoster → Roster
roster_in v = roster_or_none v.roster

-- A task is a program of the roster, which it names by its number, with the objects that are that program's, and has not ended. That it stands where the run of its
-- image's code is, is so of each program that is run
pub record IsTask (r : Roster) (p : RunView) : Type 0 where
  pub of : roster_of p ≡ r
  pub named : p.number < length r.programs
  pub placed : p.first ≡ p.number * r.objects
  pub going : p.over ≡ false

-- all passes know this roster
abbrev pub AllKnow : Roster → List KnowsRoster → Type 0
AllKnow r views = (pass : ℕ) (v : KnowsRoster) → get_elem? views pass ≡ some v → v.roster ≡ Some r

-- how many tasks are in hand with these passes
abbrev pub all_in_hand : List KnowsRoster → ℕ
all_in_hand [] = 0
all_in_hand (v ∷ views) = v.in_hand + all_in_hand views

-- There is one pass, and the queue is empty; or all passes know one roster, each task is of it, and those in hand and those in the queue are as many as the
-- programs of the roster
abbrev pub AreTasks : List RunView → List KnowsRoster → Type 0
AreTasks items views = ((views ≡ unknown ∷ []) × (items ≡ [])) ⊎ ((r : Roster) × AllKnow r views × All (IsTask r) items × (all_in_hand views + length items ≡ length r.programs))
