use Rattle.std.proofs.lemmas.Result.{err_from_is_err_and}
use Rattle.image_reader.specs.Reading.{list_at, number_at}
use Rattle.image_reader.proofs.Loops.{goes_on, ends, is_done}
use Rattle.image_reader.proofs.lists.registers_of.Goals as goal

pub returns-in_err-register : goal.returns-in_err-register
returns-in_err-register c =
    let p = err_from_is_err_and c.from_residual-in_err-register.result c.from_residual-in_err-register.ensures.1 in
    rw (p.1, p.2) (ends number_at c.in_err-register.field-0.0 c.loop.items.items c.in_ok-count.count c.loop.counter c.loop.rest.now (list_at number_at c.args.bytes.now) c.loop-test.true c.in_err-register.ensures c.loop.invariant)

pub loop-preserved : goal.loop-preserved
loop-preserved c =
    rw c.in_ok-push.ensures.items (goes_on number_at c.loop.items.items c.in_ok-count.count c.loop.counter c.loop.rest.now c.in_ok-register.register c.in_ok-register.behind.now (list_at number_at c.args.bytes.now) c.loop-test.true c.in_ok-register.ensures c.loop.invariant)

pub returns : goal.returns
returns c = rw c.shrink_to_fit.ensures.items (is_done number_at c.loop.items.items c.in_ok-count.count c.loop.counter c.loop.rest.now (list_at number_at c.args.bytes.now) c.loop-test.false c.loop.invariant)
