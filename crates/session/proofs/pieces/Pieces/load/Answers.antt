use Rattle.std.proofs.Common.{sym}
use Rattle.session.proofs.Kept.{kept_low, kept_may}
use Rattle.session.proofs.pieces.Pieces.load.Goals as goal

pub load-requires-clause-low : goal.load-requires-clause-low
load-requires-clause-low g c κs within = kept_low c.args.table.now c.args.scale.shift c.args.self.now.holds.items c.args.self.now.owner c.requires.kept c.args.scope c.in_ok-object.field-0 c.args.cell.index c.place-index.result (sym c.in_ok-object.ensures) c.place-index.ensures

pub load-requires-clause-hold : goal.load-requires-clause-hold
load-requires-clause-hold g c κs within = kept_may c.args.table.now c.args.scale.shift c.args.self.now.holds.items c.args.self.now.owner c.requires.kept c.args.scope c.in_ok-object.field-0 (sym c.in_ok-object.ensures)
