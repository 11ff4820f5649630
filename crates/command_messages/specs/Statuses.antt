-- Exit statuses.
use Rattle.std.specs.Prelude.{ℕ, Option, Some, None}
use Rattle.cells.specs.declared.ending.Run.{Run}
use Rattle.cells.specs.declared.ending.Run.TheVariants.{Running, Stopped, Wanted}
use Rattle.cells.specs.declared.ending.Stop.{Stop}
use Rattle.cells.specs.declared.ending.Stop.TheVariants.{Ended}
use Rattle.cells.specs.Stops as s

-- the status of a stop: 0 for a result, 1 for any other
abbrev pub stop_status : Stop → ℕ
stop_status (Ended number) = 0
stop_status _ = 1

-- the status of a run: 3 for a want
abbrev pub run_status : Run → ℕ
run_status Running = 0
run_status (Stopped stop) = stop_status stop
run_status (Wanted want) = 3

-- the status of a plain run: 0 where it was cut, too
abbrev pub ended_status : Option s.Stop → ℕ
ended_status None = 0
ended_status (Some (s.Ended number)) = 0
ended_status (Some _) = 1
