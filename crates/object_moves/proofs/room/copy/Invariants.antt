use Rattle.std.proofs.Common.{◌≡◌, ◌++◌, length}
use Rattle.object_moves.specs.Deeds.{copies}
use Rattle.object_moves.specs.Taken.{CopiesOnly}
use Rattle.object_lock.specs.SeatViews.{IsSeat}
use Rattle.pointer_word.specs.Ordered.{IsCopied}
use Rattle.object_moves.proofs.room.copy.Given as goal

abbrev pub invariant-loop-i : goal.invariant-loop-i
invariant-loop-i g l = IsSeat l.table l.mover × CopiesOnly l.initial.mover l.mover × (length l.words ≡ l.table.sizes.cells) × IsCopied l.mover.view.hand l.words l.i
    × (l.mover.log ≡ l.initial.mover.log ++ copies l.table.sizes l.initial.mover.view.number l.frame l.words l.i)
