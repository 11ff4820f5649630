use Rattle.object_lock.specs.SeatViews.{IsSeat}
use Rattle.pointer_word.specs.Asked.{HasNothing}
use Rattle.run_tests.proofs.rounds.tell_rounds.Given as goal

abbrev pub invariant-loop-budget : goal.invariant-loop-budget
invariant-loop-budget g l = IsSeat l.region.table l.seat × HasNothing l.seat.view.hand
