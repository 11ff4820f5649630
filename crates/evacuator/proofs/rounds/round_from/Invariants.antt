use Rattle.std.proofs.Common.{◌≡◌, ◌≤◌}
use Rattle.object_lock.specs.SeatViews.{IsSeat}
use Rattle.object_moves.specs.Ways.{did_of}
use Rattle.evacuator.specs.Rounds.{Evacuates, Visits, moves_of}
use Rattle.evacuator.proofs.rounds.round_from.Given as goal

abbrev pub invariant-loop-i : goal.invariant-loop-i
invariant-loop-i g l =
    IsSeat l.table l.seat × Evacuates l.initial.seat l.seat l.round × (moves_of l.round ≤ l.i) × (g.S.RawStore.reliable → l.round.failed ≡ 0)
    × (moves_of l.round ≡ 0 → l.seat ≡ l.initial.seat) × Visits l.table.sizes l.initial.seat.view.number (did_of l.initial.seat) (did_of l.seat) l.round
