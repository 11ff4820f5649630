use Rattle.std.proofs.Common.{◌≡◌, ◌∙◌, ap, arith, take}
use Rattle.std.specs.List.{insert}
use Rattle.guard_hoisting.specs.Building.{place_below}
use Rattle.guard_hoisting.proofs.Ranks.{below_inside, ranked_there}
use Rattle.guard_hoisting.proofs.choosing.rank.Goals as goal

pub insert-requires : goal.insert-requires
insert-requires c =
    let n = c.args.used.times in
    let rs = c.args.ranked.now.items in
    let e : c.place_for-place.result ≡ place_below n rs = c.place_for-place.ensures ∙ ap (place_below n) c.deref.ensures.value in
    omega (arith, e, below_inside n rs, c.args.ranked.now.ok.0)

pub returns : goal.returns
returns c =
    let n = c.args.used.times in
    let rs = c.args.ranked.now.items in
    let e : c.place_for-place.result ≡ place_below n rs = c.place_for-place.ensures ∙ ap (place_below n) c.deref.ensures.value in
    c.truncate.ensures.items ∙ ap (take 3) (c.in_ok-insert.ensures.items ∙ (ap (λ i. insert rs i c.args.used) e ∙ ranked_there c.args.used rs))
