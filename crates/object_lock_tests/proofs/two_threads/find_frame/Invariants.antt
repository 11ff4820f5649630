use Rattle.std.proofs.Common.{◌≡◌}
use Rattle.object_lock_tests.proofs.two_threads.find_frame.Given as goal

abbrev pub invariant-loop-frame : goal.invariant-loop-frame
invariant-loop-frame g l = l.owner ≡ l.initial.owner
