use Rattle.std.proofs.Common.{◌≡◌, ◌≤◌}
use Rattle.run_tests.proofs.rounds.free_frames.Given as goal

abbrev pub invariant-loop-frame : goal.invariant-loop-frame
invariant-loop-frame g l = (l.seat ≡ l.initial.seat) × (l.free ≤ l.frame)
