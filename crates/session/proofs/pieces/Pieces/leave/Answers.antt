use Rattle.std.proofs.Common.{sym}
use Rattle.session.proofs.Kept.{kept_closed, kept_owned, some_low}
use Rattle.session.proofs.pieces.Pieces.leave.Goals as goal

pub close-requires-clause-scope : goal.close-requires-clause-scope
close-requires-clause-scope g c κs within = some_low c.args.self.now.holds.items c.args.scope c.in-Some.hold (sym c.in-Some.ensures)

pub close-requires-clause-hold : goal.close-requires-clause-hold
close-requires-clause-hold g c κs within = kept_owned c.args.table.now c.args.scale.shift c.args.self.now.holds.items c.args.self.now.owner c.requires.kept c.args.scope c.in-Some.hold (sym c.in-Some.ensures)

pub returns-in-Some-clause-kept : goal.returns-in-Some-clause-kept
returns-in-Some-clause-kept g c = kept_closed c.args.table.now c.args.scale.shift c.args.self.now.holds.items c.args.self.now.owner c.requires.kept c.args.scope c.in-Some.hold c.close.new.self.owner c.close.new.self.holds.items (sym c.in-Some.ensures) c.close.ensures.table c.close.ensures.seat c.close.ensures.holds
