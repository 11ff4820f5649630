-- The bytes that are printed of an end.
use Rattle.std.specs.Prelude.{ℕ, List, ◌++◌, codes, string_bytes}
use Rattle.std.specs.Fmt.{signed_decimal}
use Rattle.cells.specs.declared.ending.Stop.{Stop}
use Rattle.cells.specs.declared.ending.Stop.TheVariants.{Ended, AssertFailed, ErrorCalled, NullFault, BoundsFault, LengthFault, ArithFault}
use Rattle.cells.specs.declared.ending.Want.{Want}
use Rattle.cells.specs.declared.ending.Want.TheVariants.{OutOfMemory, NoObjects, StoreFailed}
use Rattle.cells.specs.declared.ending.Run.{Run}
use Rattle.cells.specs.declared.ending.Run.TheVariants.{Running, Stopped, Wanted}

-- what was wanted
abbrev pub want_line : Want → List ℕ
want_line OutOfMemory = codes "out of memory"
want_line NoObjects = codes "no objects"
want_line StoreFailed = codes "store failed"

-- how a program stopped: a number is in decimal, with `-` before it below 0, and a text of `error` is as it is
abbrev pub stop_line : Stop → List ℕ
stop_line (Ended number) = codes "result: " ++ signed_decimal number
stop_line AssertFailed = codes "assertion failed"
stop_line (ErrorCalled text) = codes "error: " ++ string_bytes text
stop_line NullFault = codes "null fault"
stop_line BoundsFault = codes "bounds fault"
stop_line LengthFault = codes "length fault"
stop_line ArithFault = codes "arithmetic fault"

-- where a run is: that it goes on, or the line of its stop or of its want
abbrev pub run_line : Run → List ℕ
run_line Running = codes "running"
run_line (Stopped stop) = stop_line stop
run_line (Wanted want) = want_line want
