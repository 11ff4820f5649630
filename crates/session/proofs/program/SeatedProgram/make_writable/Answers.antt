use Rattle.session.proofs.Writing.{held_owned, holding_cleared}
use Rattle.session.proofs.program.SeatedProgram.make_writable.Goals as goal

pub clear_hold-requires-clause-hold : goal.clear_hold-requires-clause-hold
clear_hold-requires-clause-hold g c κs within = held_owned c.args.self.now.state c.args.scope c.args.hold c.requires.holding c.requires.held

pub returns-then-not-hold-clause-holding : goal.returns-then-not-hold-clause-holding
returns-then-not-hold-clause-holding g c = holding_cleared c.args.self.now.state c.clear_hold.new.self.state c.args.scope c.args.hold c.requires.holding c.requires.scope c.requires.held c.clear_hold.ensures.cleared
