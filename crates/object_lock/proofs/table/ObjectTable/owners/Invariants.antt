use Rattle.std.specs.List.{All}
use Rattle.object_lock.specs.Fresh.{IsFreshOwner, IsLastOwner, AreNumbered}
use Rattle.object_lock.proofs.table.ObjectTable.owners.Given as goal

abbrev pub invariant-loop-program : goal.invariant-loop-program
invariant-loop-program g l = AreNumbered 1 l._program l.owners.items × All (IsFreshOwner l.self l.share) l.owners.items × IsLastOwner l.self l.share l.programs l._program l.last
