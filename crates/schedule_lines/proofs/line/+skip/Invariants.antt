use Rattle.std.proofs.Common.{length}
use Rattle.schedule_lines.proofs.line.+skip.Given as goal

abbrev pub decreases-skip : goal.decreases-skip
decreases-skip l = length l.text.now
