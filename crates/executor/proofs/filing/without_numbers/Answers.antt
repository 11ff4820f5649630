use Rattle.std.proofs.Common.{rules, arith, ◌≡◌, ◌∷◌, ap, length, map}
use Rattle.std.specs.Vec.Iter.{into_iter_items}
use Rattle.executor.specs.Ends.{end_of}
use Rattle.executor.proofs.Composed.{mapped_more, more}
use Rattle.executor.proofs.filing.without_numbers.Goals as goal

pub loop-one-preserved : goal.loop-one-preserved
loop-one-preserved c =
    let all = c.args.finished.items in
    let done = c.loop-one.yielded in
    let left = into_iter_items c.loop-one.one-iterator in
    let rest = into_iter_items c.next.new.self in
    let before = c.loop-one.invariant in
    let took : left ≡ c.in-Some.one ∷ rest = search rules in
    let pushed = c.push_reserved.ensures.items in
    let room = before.4 in
    let len = c.push_reserved.ensures.len in
    let capacity = c.push_reserved.ensures.capacity in
    let long = ap length took in (
      tt,
      tt,
      more done left rest all c.in-Some.one before.2 took,
      mapped_more end_of done c.in-Some.one c.loop-one.ends.items c.push_reserved.new.self.items before.3 pushed,
      omega arith,
    )
