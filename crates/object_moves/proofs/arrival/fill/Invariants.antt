use Rattle.object_moves.specs.Deeds.{AddsFills}
use Rattle.object_moves.specs.Taken.{FilledBelow, FillsOnly}
use Rattle.object_lock.specs.SeatViews.{IsSeat}
use Rattle.object_moves.proofs.arrival.fill.Given as goal

abbrev pub invariant-loop-i : goal.invariant-loop-i
invariant-loop-i g l = IsSeat l.table l.mover × FillsOnly l.initial.mover l.mover × FilledBelow l.mover.view.hand.filled l.words l.i
    × AddsFills l.table.sizes l.initial.mover.view.number l.frame l.words l.i l.initial.mover.log l.mover.log
