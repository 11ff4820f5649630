use Rattle.std.proofs.Common.{length}
use Rattle.schedule_lines.proofs.Numbers.{TellsOf}
use Rattle.schedule_lines.proofs.line.digits_of.Given as goal

-- what is told of the digits from here on, behind the number so far, is told of all of them
abbrev pub invariant-loop-rest : goal.invariant-loop-rest
invariant-loop-rest l = TellsOf l.number l.rest l.text

abbrev pub decreases-loop-rest : goal.decreases-loop-rest
decreases-loop-rest l = length l.rest
