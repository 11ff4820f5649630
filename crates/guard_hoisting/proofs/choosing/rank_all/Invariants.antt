use Rattle.std.proofs.Common.{◌≡◌, [], take}
use Rattle.std.specs.Vec.Iter.{into_iter_items}
use Rattle.guard_hoisting.specs.Ways.{ranked_with}
use Rattle.guard_hoisting.proofs.choosing.rank_all.Given as goal

abbrev pub invariant-loop-used : goal.invariant-loop-used
invariant-loop-used l = take 3 (ranked_with l.ranked.items (into_iter_items l.used-iterator)) ≡ take 3 (ranked_with [] l.fn.uses.items)
