use Rattle.object_lock_tests.specs.Standing.{IsShut}
use Rattle.object_lock_tests.proofs.two_threads.count_reads.Given as goal

abbrev pub invariant-loop-round : goal.invariant-loop-round
invariant-loop-round g l = IsShut l.table l.owner l.obj
