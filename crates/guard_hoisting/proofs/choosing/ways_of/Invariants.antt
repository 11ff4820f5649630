use Rattle.std.proofs.Common.{◌≡◌}
use Rattle.guard_hoisting.specs.Ways.{ways_of}
use Rattle.guard_hoisting.proofs.choosing.ways_of.Given as goal

abbrev pub invariant-loop-used : goal.invariant-loop-used
invariant-loop-used l = l.ways.items ≡ ways_of l.yielded
