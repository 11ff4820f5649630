use Rattle.std.proofs.Common.{◌≡◌}
use Rattle.executor.proofs.movers.Mover.go_on.Given as goal

-- the mover stays at its seat
abbrev pub invariant-loop : goal.invariant-loop
invariant-loop g l = (goal.iterator-loop g).can_next l.iterator' × (goal.iterator-loop g).is_finite l.iterator' × (l.self ≡ l.initial.self)
