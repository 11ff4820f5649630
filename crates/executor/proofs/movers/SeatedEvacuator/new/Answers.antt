use Rattle.object_moves.specs.Ways.{did_of}
use Rattle.evacuator.proofs.Visits.{no_rounds}
use Rattle.executor.proofs.movers.SeatedEvacuator.new.Goals as goal

pub invariant_of-result : goal.invariant_of-result
invariant_of-result g c = (c.requires.seat.0, c.requires.seat.1, no_rounds g.S.RawStore.reliable c.args.region.now.table.sizes c.args.seat.view.number (did_of c.args.seat) c.requires.seat.2 c.requires.seat.3)
