use Rattle.std.proofs.Common.{◌≡◌, ◌++◌, ◌∷◌, [], map}
use Rattle.std.proofs.lemmas.Result.{err_from_is_err_and}
use Rattle.std.proofs.lemmas.List.{map_push}
use Rattle.code_form.specs.Form.{function_of}
use Rattle.image_reader.specs.Reading.{list_at, function_at}
use Rattle.image_reader.proofs.Loops.{goes_on, ends, is_done}
use Rattle.image_reader.proofs.lists.functions_of.Goals as goal

pub returns-in_err-function : goal.returns-in_err-function
returns-in_err-function c =
    let p = err_from_is_err_and c.from_residual-in_err-function.result c.from_residual-in_err-function.ensures.1 in
    rw (p.1, p.2) (ends function_at c.in_err-function.field-0.0 (map function_of c.loop.items.items) c.in_ok-count.count c.loop.counter c.loop.rest.now (list_at function_at c.args.bytes.now) c.loop-test.true c.in_err-function.ensures c.loop.invariant)

pub loop-preserved : goal.loop-preserved
loop-preserved c =
    let e : map function_of c.push.new.self.items ≡ map function_of c.loop.items.items ++ function_of c.in_ok-function.function ∷ [] = rw c.in_ok-push.ensures.items (map_push _ c.loop.items.items c.in_ok-function.function) in
    rw e (goes_on function_at (map function_of c.loop.items.items) c.in_ok-count.count c.loop.counter c.loop.rest.now (function_of c.in_ok-function.function) c.in_ok-function.behind.now (list_at function_at c.args.bytes.now) c.loop-test.true c.in_ok-function.ensures c.loop.invariant)

pub returns : goal.returns
returns c = rw c.shrink_to_fit.ensures.items (is_done function_at (map function_of c.loop.items.items) c.in_ok-count.count c.loop.counter c.loop.rest.now (list_at function_at c.args.bytes.now) c.loop-test.false c.loop.invariant)
