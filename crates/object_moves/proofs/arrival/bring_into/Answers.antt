use Rattle.object_moves.proofs.Filling.{zeros}
use Rattle.object_moves.proofs.arrival.bring_into.Goals as goal

pub bring_by_way_of-requires-clause-zeros : goal.bring_by_way_of-requires-clause-zeros
bring_by_way_of-requires-clause-zeros g c κs within = zeros _ 64

pub bring_by_way_of-requires-else-cells-le-USUAL_CELLS-clause-zeros : goal.bring_by_way_of-requires-else-cells-le-USUAL_CELLS-clause-zeros
bring_by_way_of-requires-else-cells-le-USUAL_CELLS-clause-zeros g c κs within = zeros _ 256
