use Rattle.session.proofs.Kept.{kept_cleared, kept_owned, some_low}
use Rattle.session.proofs.pieces.Pieces.make_writable.Goals as goal

pub clear-requires-clause-scope : goal.clear-requires-clause-scope
clear-requires-clause-scope g c κs within = some_low c.args.self.now.holds.items c.args.scope c.args.hold c.requires.held

pub clear-requires-clause-hold : goal.clear-requires-clause-hold
clear-requires-clause-hold g c κs within = kept_owned c.args.table.now c.args.scale.shift c.args.self.now.holds.items c.args.self.now.owner c.requires.kept c.args.scope c.args.hold c.requires.held

pub returns-then-not-hold-clause-kept : goal.returns-then-not-hold-clause-kept
returns-then-not-hold-clause-kept g c = kept_cleared c.args.table.now c.args.scale.shift c.args.self.now.holds.items c.args.self.now.owner c.requires.kept c.args.scope c.args.hold c.clear.new.self.owner c.clear.new.self.holds.items c.requires.held c.clear.ensures.table c.clear.ensures.seat c.clear.ensures.holds
