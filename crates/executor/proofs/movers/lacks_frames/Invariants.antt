use Rattle.std.proofs.Common.{◌≡◌}
use Rattle.object_lock.specs.SeatViews.{IsSeat}
use Rattle.executor.proofs.movers.lacks_frames.Given as goal

abbrev pub invariant-loop-frame : goal.invariant-loop-frame
invariant-loop-frame g l = IsSeat l.table l.seat × (l.seat ≡ l.initial.seat)
