use Rattle.std.proofs.lemmas.Result.{err_from_is_err_and}
use Rattle.image_reader.specs.Reading.{list_at, fact_at}
use Rattle.image_reader.proofs.Loops.{goes_on, ends, is_done}
use Rattle.image_reader.proofs.lists.facts_of.Goals as goal

pub returns-in_err-fact : goal.returns-in_err-fact
returns-in_err-fact c =
    let p = err_from_is_err_and c.from_residual-in_err-fact.result c.from_residual-in_err-fact.ensures.1 in
    rw (p.1, p.2) (ends fact_at c.in_err-fact.field-0.0 c.loop.items.items c.in_ok-count.count c.loop.counter c.loop.rest.now (list_at fact_at c.args.bytes.now) c.loop-test.true c.in_err-fact.ensures c.loop.invariant)

pub loop-preserved : goal.loop-preserved
loop-preserved c =
    rw c.in_ok-push.ensures.items (goes_on fact_at c.loop.items.items c.in_ok-count.count c.loop.counter c.loop.rest.now c.in_ok-fact.fact c.in_ok-fact.behind.now (list_at fact_at c.args.bytes.now) c.loop-test.true c.in_ok-fact.ensures c.loop.invariant)

pub returns : goal.returns
returns c = rw c.shrink_to_fit.ensures.items (is_done fact_at c.loop.items.items c.in_ok-count.count c.loop.counter c.loop.rest.now (list_at fact_at c.args.bytes.now) c.loop-test.false c.loop.invariant)
