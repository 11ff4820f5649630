use Rattle.run_tests.proofs.rounds.tell_programs.Goals as goal

pub tell_region-requires-clause-owners : goal.tell_region-requires-clause-owners
tell_region-requires-clause-owners g c κs lives k d l = (c.in-Ok.ensures.owners.1 k d l).0

pub tell_region-requires-clause-movers : goal.tell_region-requires-clause-movers
tell_region-requires-clause-movers g c κs lives k d l = (c.in-Ok.ensures.movers.1 k d l).0
