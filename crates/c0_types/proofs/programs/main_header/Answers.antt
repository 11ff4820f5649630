use Rattle.std.proofs.Common.{sym}
use Rattle.c0_types.proofs.MainSteps.{main_later, main_there}
use Rattle.c0_types.proofs.programs.main_header.Goals as goal

pub returns-in-Some-clause-there : goal.returns-in-Some-clause-there
returns-in-Some-clause-there c = λ f told.
    main_there c.loop-declaration.declaration-index c.args.declarations.now c.loop-declaration.invariant c.declaration-item.result c.loop-declaration-test.true c.declaration-item.is f (c.in-Some.ensures.there f told)

pub loop-declaration-preserved : goal.loop-declaration-preserved
loop-declaration-preserved c =
    main_later c.loop-declaration.declaration-index c.args.declarations.now c.loop-declaration.invariant c.declaration-item.result c.loop-declaration-test.true c.declaration-item.is (sym c.in_default.ensures.named)
