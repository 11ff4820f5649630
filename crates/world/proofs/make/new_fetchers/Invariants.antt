use Rattle.std.proofs.Common.{◌-◌, ◌≤◌, length}
use Rattle.cells.specs.Pieces.{cells_in}
use Rattle.world.specs.Opened.{AreAtRest}
use Rattle.world.proofs.make.new_fetchers.Given as goal

abbrev pub invariant-loop-alloc : goal.invariant-loop-alloc
invariant-loop-alloc g l = (length l.fetchers.items ≤ l.count) × AreAtRest (cells_in l.piece) l.before l.fetchers.items

abbrev pub decreases-loop-alloc : goal.decreases-loop-alloc
decreases-loop-alloc g l = l.count - length l.fetchers.items
