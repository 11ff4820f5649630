-- The last line of a plain run.
use Rattle.std.specs.Prelude.{ℕ, List, ◌++◌, Option, Some, None, codes}
use Rattle.std.specs.Fmt.{signed_decimal}
use Rattle.cells.specs.Stops.{Stop, Ended, AssertFailed, ErrorCalled, NullFault, BoundsFault, LengthFault, ArithFault}

-- how a program stopped: a number is in decimal, with `-` before it below 0, and a text of `error` is as it is
abbrev pub end_line : Stop → List ℕ
end_line (Ended number) = codes "result: " ++ signed_decimal number
end_line AssertFailed = codes "assertion failed"
end_line (ErrorCalled text) = codes "error: " ++ text
end_line NullFault = codes "null fault"
end_line BoundsFault = codes "bounds fault"
end_line LengthFault = codes "length fault"
end_line ArithFault = codes "arithmetic fault"

-- the same, or that a turn was wanted where none was left
abbrev pub last_line : Option Stop → List ℕ
last_line None = codes "cut"
last_line (Some stop) = end_line stop
