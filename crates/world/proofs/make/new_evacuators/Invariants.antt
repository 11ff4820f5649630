use Rattle.std.proofs.Common.{◌-◌, ◌≤◌, length}
use Rattle.cells.specs.Pieces.{cells_in}
use Rattle.world.specs.Opened.{AreIdle}
use Rattle.world.proofs.make.new_evacuators.Given as goal

abbrev pub invariant-loop-alloc : goal.invariant-loop-alloc
invariant-loop-alloc g l = (length l.evacuators.items ≤ l.count) × AreIdle (cells_in l.piece) l.programs l.evacuators.items

abbrev pub decreases-loop-alloc : goal.decreases-loop-alloc
decreases-loop-alloc g l = l.count - length l.evacuators.items
