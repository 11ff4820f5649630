use Rattle.std.proofs.Common.{length}
use Rattle.test_rows.proofs.lines.+before_count.Given as goal

abbrev pub decreases-before_count : goal.decreases-before_count
decreases-before_count l = length l.lines.now
