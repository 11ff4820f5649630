use Rattle.std.proofs.Common.{◌≡◌, ◌+◌, drop}
use Rattle.guard_hoisting.specs.Building.{place_below}
use Rattle.guard_hoisting.proofs.choosing.place_for.Given as goal

abbrev pub invariant-loop-place : goal.invariant-loop-place
invariant-loop-place l = place_below l.times l.ranked ≡ l.place + place_below l.times (drop l.place l.ranked)
