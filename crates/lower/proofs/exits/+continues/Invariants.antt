use Rattle.std.proofs.Common.{◌≡◌, drop}
use Rattle.lower.specs.Building.{any_continue}
use Rattle.lower.proofs.exits.+continues.Given as goal

-- what is left decides
abbrev pub invariant-some_continues-loop-statement : goal.invariant-some_continues-loop-statement
invariant-some_continues-loop-statement l = any_continue (drop l.statement-index l.all) ≡ any_continue l.all
