use Rattle.std.proofs.Common.{subst, sym}
use Rattle.session.specs.Keeping.{IsHolding}
use Rattle.session.proofs.Holding.{changes_shut, holding_shut}
use Rattle.session.proofs.Writing.{held_owned}
use Rattle.session.proofs.program.SeatedProgram.shut.Goals as goal

pub close_hold-requires-clause-hold : goal.close_hold-requires-clause-hold
close_hold-requires-clause-hold g c κs within = held_owned c.args.self.now.state c.args.scope c.in-Some.hold c.requires.holding (sym c.in-Some.ensures)

pub returns-in-Some-clause-holding : goal.returns-in-Some-clause-holding
returns-in-Some-clause-holding g c = subst IsHolding (sym c.close_hold.ensures.shut) (holding_shut c.args.self.now.state c.args.scope _ (sym c.in-Some.ensures) c.requires.holding c.requires.scope)

pub returns-in-Some-clause-changes : goal.returns-in-Some-clause-changes
returns-in-Some-clause-changes g c = changes_shut c.args.self.now.state _ c.args.scope _ (sym c.in-Some.ensures) c.requires.holding c.requires.scope c.close_hold.ensures.shut
