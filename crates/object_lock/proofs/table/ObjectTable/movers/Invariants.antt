use Rattle.std.proofs.Common.{suc, ◌+◌}
use Rattle.std.specs.List.{All}
use Rattle.object_lock.specs.Fresh.{IsFreshMover, IsLastMover, AreNumbered}
use Rattle.object_lock.proofs.table.ObjectTable.movers.Given as goal

abbrev pub invariant-loop-made : goal.invariant-loop-made
invariant-loop-made g l = AreNumbered (suc l.fn.owner.view.number) l._made l.movers.items × All (IsFreshMover l.self) l.movers.items × IsLastMover l.self (suc l.fn.owner.view.number + l._made) l.last
