use Rattle.std.proofs.Common.{arith, sym}
use Rattle.world_actors.proofs.Firsts.{first_nowhere, first_there}
use Rattle.world_actors.proofs.program.first_of_holds.Goals as goal

pub returns-in-Some : goal.returns-in-Some
returns-in-Some c = sym (first_there c.args.holds.now c.loop-scope.scope c.in-Some.hold c.loop-scope.invariant c.in-Some.is)

pub returns : goal.returns
returns c = sym (first_nowhere c.args.holds.now (λ j l. c.loop-scope.invariant j (omega (arith, c.loop-scope-test.false))))
