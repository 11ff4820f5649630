use Rattle.std.proofs.lemmas.Result.{err_from_is_err_and}
use Rattle.image_reader.specs.Reading.{list_at, kind_at}
use Rattle.image_reader.proofs.Loops.{goes_on, ends, is_done}
use Rattle.image_reader.proofs.lists.kinds_of.Goals as goal

pub returns-in_err-kind : goal.returns-in_err-kind
returns-in_err-kind c =
    let p = err_from_is_err_and c.from_residual-in_err-kind.result c.from_residual-in_err-kind.ensures.1 in
    rw (p.1, p.2) (ends kind_at c.in_err-kind.field-0.0 c.loop.items.items c.in_ok-count.count c.loop.counter c.loop.rest.now (list_at kind_at c.args.bytes.now) c.loop-test.true c.in_err-kind.ensures c.loop.invariant)

pub loop-preserved : goal.loop-preserved
loop-preserved c =
    rw c.in_ok-push.ensures.items (goes_on kind_at c.loop.items.items c.in_ok-count.count c.loop.counter c.loop.rest.now c.in_ok-kind.kind c.in_ok-kind.behind.now (list_at kind_at c.args.bytes.now) c.loop-test.true c.in_ok-kind.ensures c.loop.invariant)

pub returns : goal.returns
returns c = rw c.shrink_to_fit.ensures.items (is_done kind_at c.loop.items.items c.in_ok-count.count c.loop.counter c.loop.rest.now (list_at kind_at c.args.bytes.now) c.loop-test.false c.loop.invariant)
