use Rattle.std.proofs.Common.{◌≡◌}
use Rattle.object_moves.proofs.search.find_between.Given as goal

abbrev pub invariant-loop-frame : goal.invariant-loop-frame
invariant-loop-frame g l = l.mover ≡ l.initial.mover
