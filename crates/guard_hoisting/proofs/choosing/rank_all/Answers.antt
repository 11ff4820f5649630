use Rattle.std.proofs.Common.{◌∙◌, List, ap, sym, take}
use Rattle.std.specs.Vec.Iter.{into_iter_items}
use Rattle.guard_hoisting.specs.declared.ways.Use.{Use}
use Rattle.guard_hoisting.specs.Ways.{ranked_in, ranked_with}
use Rattle.guard_hoisting.proofs.Ranks.{kept_with}
use Rattle.guard_hoisting.proofs.choosing.rank_all.Goals as goal

pub loop-used-preserved : goal.loop-used-preserved
loop-used-preserved c =
    let rest = into_iter_items c.next.new.self in
    let before = c.loop-used.ranked.items in
    ap (λ (l : List Use). take 3 (ranked_with l rest)) c.in_ok-rank.ensures
    ∙ (kept_with 3 (ranked_in c.in-Some.used before) rest ∙ (ap (λ (l : List Use). take 3 (ranked_with before l)) (sym c.in-Some.ensures.steps.0) ∙ c.loop-used.invariant))
