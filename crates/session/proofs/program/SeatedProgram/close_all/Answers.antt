use Rattle.std.proofs.Common.{arith}
use Rattle.session.proofs.Performing.{shut_each}
use Rattle.session.proofs.program.SeatedProgram.close_all.Goals as goal

pub returns-clause-exact : goal.returns-clause-exact
returns-clause-exact g c = shut_each c.args.self.now c.loop-scope.self c.loop-scope.scope c.scopes-scope-end.result c.loop-scope.invariant.4 c.loop-scope.invariant.5 (omega arith) c.scopes-scope-end.ensures
