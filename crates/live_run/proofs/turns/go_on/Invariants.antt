use Rattle.streams.specs.Streams.{writes}
use Rattle.live_run.specs.Lives.{IsSame, Shows}
use Rattle.live_run.proofs.turns.go_on.Given as goal

-- it is the same program, and what it has printed is written
abbrev pub invariant-loop : goal.invariant-loop
invariant-loop g l =
    (goal.iterator-loop g).can_next l.iterator' × (goal.iterator-loop g).is_finite l.iterator' × IsSame l.initial.program l.program
    × Shows g.S.RawStore.honest l.program.printed (writes g.O.Stream.contents g.O.Stream.failures l.initial.out l.out)
