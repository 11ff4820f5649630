use Rattle.std.proofs.Common.{◌≡◌}
use Rattle.session.proofs.program.own_frames.Given as goal

abbrev pub invariant-loop-frame : goal.invariant-loop-frame
invariant-loop-frame g l = l.owner ≡ l.initial.owner
