use Rattle.std.proofs.Common.{◌≡◌, ◌++◌, ◌∷◌, [], map}
use Rattle.std.proofs.lemmas.Result.{err_from_is_err_and}
use Rattle.std.proofs.lemmas.List.{map_push}
use Rattle.code_form.specs.Form.{block_of}
use Rattle.image_reader.specs.Reading.{list_at, block_at}
use Rattle.image_reader.proofs.Loops.{goes_on, ends, is_done}
use Rattle.image_reader.proofs.lists.blocks_of.Goals as goal

pub returns-in_err-block : goal.returns-in_err-block
returns-in_err-block c =
    let p = err_from_is_err_and c.from_residual-in_err-block.result c.from_residual-in_err-block.ensures.1 in
    rw (p.1, p.2) (ends block_at c.in_err-block.field-0.0 (map block_of c.loop.items.items) c.in_ok-count.count c.loop.counter c.loop.rest.now (list_at block_at c.args.bytes.now) c.loop-test.true c.in_err-block.ensures c.loop.invariant)

pub loop-preserved : goal.loop-preserved
loop-preserved c =
    let e : map block_of c.push.new.self.items ≡ map block_of c.loop.items.items ++ block_of c.in_ok-block.block ∷ [] = rw c.in_ok-push.ensures.items (map_push _ c.loop.items.items c.in_ok-block.block) in
    rw e (goes_on block_at (map block_of c.loop.items.items) c.in_ok-count.count c.loop.counter c.loop.rest.now (block_of c.in_ok-block.block) c.in_ok-block.behind.now (list_at block_at c.args.bytes.now) c.loop-test.true c.in_ok-block.ensures c.loop.invariant)

pub returns : goal.returns
returns c = rw c.shrink_to_fit.ensures.items (is_done block_at (map block_of c.loop.items.items) c.in_ok-count.count c.loop.counter c.loop.rest.now (list_at block_at c.args.bytes.now) c.loop-test.false c.loop.invariant)
