use Rattle.std.proofs.Common.{length}
use Rattle.c0_values.proofs.heap.+stored.Given as goal

abbrev pub decreases-stored : goal.decreases-stored
decreases-stored l = length l.path.now
