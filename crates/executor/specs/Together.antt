-- What the seats of a table did in a run of all programs of a region, in one state of the table.
use Rattle.std.specs.Prelude.{◌≡◌, ℕ, suc, ◌+◌, ◌<◌, ◌≤◌, List, Some, length, slice_get}
use mathlib.Core.Option.{some}
use lib.ListN.{get_elem?}
use Rattle.atomic_table.specs.Table.{State as Table}
use Rattle.code_form.specs.Form.{Image}
use Rattle.object_lock.specs.Logs.{Seated}
use Rattle.object_lock.specs.Rule.{LoggedRule}
use Rattle.object_lock.specs.Seats.{Sizes}
use Rattle.object_moves.specs.Ways.{Did}
use Rattle.evacuator.specs.Rounds.{HasMadeRounds}
use Rattle.fetcher.specs.Serving.{HasServed}
use Rattle.program_run.specs.Acting.{IsLeftBy, share_by}
use Rattle.program_run.specs.declared.run.Finished.{Finished}

-- One state of a table of these sizes, which keeps its rule and has no other seats than those of these programs, each with so many objects, and of so many evacuators and fetchers. All that each seat did is what the program's session
-- did that came to this end, over an honest store, or rounds, or what was done with hints
pub record HasRunTogether {S : Type 0} (kept : S → ℕ → List ℕ → Type 0) (there : S → Type 0) (honest reliable : Type 0) (z : Sizes) (objects programs evacuators fetchers : ℕ) (images : ℕ → Image) (ends : List Finished) : Type 0 where
  pub table : Table S Seated
  pub rule : LoggedRule kept there honest z table
  pub few : length table.views ≤ programs + evacuators + fetchers
  pub of_programs : (k : ℕ) (e : Finished) → slice_get ends k ≡ Some e → (v : Seated) × (get_elem? table.views k ≡ some v) × (v.view.sizes ≡ z) × IsLeftBy reliable (share_by k objects) (images k) e v
  pub of_evacuators : (k : ℕ) → k < evacuators → (v : Seated) × (get_elem? table.views (programs + k) ≡ some v) × ((did : Did) × (did.log ≡ v.log) × HasMadeRounds reliable z (suc (programs + k)) did)
  pub of_fetchers : (k : ℕ) → k < fetchers → (v : Seated) × (get_elem? table.views (programs + evacuators + k) ≡ some v) × ((did : Did) × (did.log ≡ v.log) × HasServed reliable z (suc (programs + evacuators + k)) did)
