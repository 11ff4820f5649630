use Rattle.std.proofs.Common.{◌≡◌}
use Rattle.object_moves.specs.Taken.{HandOnly, StillBrings}
use Rattle.object_moves.specs.Ways.{MakesRoom, did_of}
use Rattle.object_lock.specs.SeatViews.{IsSeat}
use Rattle.object_moves.proofs.bring.claim.Given as goal

abbrev pub invariant-loop : goal.invariant-loop
invariant-loop g l =
    (goal.iterator-loop g).can_next l.iterator' × (goal.iterator-loop g).is_finite l.iterator' × IsSeat l.table l.owner × HandOnly l.initial.owner l.owner
    × StillBrings l.initial.owner.view.hand l.owner.view.hand × (l.owner.refusals ≡ l.initial.owner.refusals) × MakesRoom l.table.sizes l.initial.owner.view.number (did_of l.initial.owner) (did_of l.owner)
