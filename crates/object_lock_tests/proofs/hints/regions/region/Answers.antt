use Rattle.object_lock_tests.proofs.hints.regions.region.Goals as goal

pub returns-in-Ok-clause-owners : goal.returns-in-Ok-clause-owners
returns-in-Ok-clause-owners g c k d l = (c.in-Ok.ensures.owners.1 k d l).0

pub returns-in-Ok-clause-movers : goal.returns-in-Ok-clause-movers
returns-in-Ok-clause-movers g c k d l = (c.in-Ok.ensures.movers.1 k d l).0
