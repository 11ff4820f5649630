use Rattle.object_lock_tests.specs.Standing.{IsIdle}
use Rattle.object_lock_tests.proofs.two_threads.move_each.Given as goal

abbrev pub invariant-loop-frame : goal.invariant-loop-frame
invariant-loop-frame g l = IsIdle l.table l.mover
