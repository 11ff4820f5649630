use Rattle.std.proofs.Common.{◌≡◌, ◌++◌}
use Rattle.std.specs.List.{All}
use Rattle.std.specs.Vec.Iter.{into_iter_items}
use Rattle.object_lock.specs.Joining.{itself}
use Rattle.object_lock.specs.SeatViews.{HasNoBerth, IsSeat}
use Rattle.object_lock.proofs.Meetings.{Stands}
use Rattle.object_lock.proofs.table.ObjectTable.meet.Given as goal

-- the seats that are left, and those for which the one stands
abbrev pub invariant-loop-other : goal.invariant-loop-other
invariant-loop-other g l =
    (goal.iterator-loop-other g).can_next l.other-iterator × (goal.iterator-loop-other g).is_finite l.other-iterator
    × (l.yielded ++ into_iter_items l.other-iterator ≡ into_iter_items l.initial.other-iterator)
    × All (IsSeat l.self) (into_iter_items l.other-iterator)
    × All HasNoBerth (into_iter_items l.other-iterator)
    × Stands l.self l.seat.table_id l.seat.me.0 (itself l.initial.seat.me.0) l.yielded
