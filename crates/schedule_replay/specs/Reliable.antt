-- What a replay tells of programs whose store never fails.
use Rattle.std.specs.Prelude.{◌≢◌, ℕ, List}
use Rattle.std.specs.List.{All}
use Rattle.cells.specs.declared.ending.Ended.{Ended}
use Rattle.cells.specs.declared.ending.Run.TheVariants.{Wanted}
use Rattle.cells.specs.declared.ending.Want.TheVariants.{StoreFailed}
use Rattle.code_form.specs.Form.{Image}
use Rattle.schedule_replay.specs.Replayed.{IsReplayed}
use Rattle.world_semantics.specs.Worlds.{Sizes}

-- over a store that is honest and never fails, a replay tells of no program that it wants the store
abbrev pub NeverFails : Type 0
NeverFails = (z : Sizes) (images : ℕ → Image) (schedule : List ℕ) (ends : List Ended) → IsReplayed (Unit {0}) (Unit {0}) z images schedule ends → All (λ e. e.run ≢ Wanted StoreFailed) ends
