use Rattle.object_lock_tests.specs.Standing.{IsIdle}
use Rattle.object_lock_tests.proofs.two_threads.move_often.Given as goal

abbrev pub invariant-loop-round : goal.invariant-loop-round
invariant-loop-round g l = IsIdle l.table l.mover
