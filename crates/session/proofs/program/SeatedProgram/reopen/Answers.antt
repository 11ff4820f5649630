use Rattle.session.proofs.Missing.{reopened, reopened_holding}
use Rattle.session.proofs.Writing.{may_open}
use Rattle.session.proofs.program.SeatedProgram.reopen.Goals as goal

pub open_hold-requires-clause-hold : goal.open_hold-requires-clause-hold
open_hold-requires-clause-hold g c κs within = may_open c.args.self.now.state c.args.scope c.args.object c.requires.holding c.requires.scope c.requires.free c.requires.own

pub returns-clause-holding : goal.returns-clause-holding
returns-clause-holding g c = reopened_holding g.S.RawStore.reliable c.args.self.now.state c.open_hold.new.self.state c.args.scope c.args.object c.open_hold.result c.requires.holding c.requires.scope c.requires.free c.requires.own c.open_hold.ensures.exact

pub returns-clause-told : goal.returns-clause-told
returns-clause-told g c = reopened g.S.RawStore.reliable c.args.self.now.state c.open_hold.new.self.state c.args.scope c.args.object c.open_hold.result c.requires.holding c.requires.scope c.requires.free c.requires.own c.open_hold.ensures.exact
