use Rattle.std.proofs.Common.{◌≡◌}
use Rattle.object_moves.proofs.room.leave_one.Given as goal

abbrev pub invariant-loop-frame : goal.invariant-loop-frame
invariant-loop-frame g l = l.owner ≡ l.initial.owner
