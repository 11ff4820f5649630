use Rattle.std.proofs.Common.{◌≡◌, ◌++◌, ◌∷◌, [], map}
use Rattle.std.proofs.lemmas.Result.{err_from_is_err_and}
use Rattle.std.proofs.lemmas.List.{map_push}
use Rattle.std.specs.Prelude.{string_bytes}
use Rattle.image_reader.specs.Reading.{list_at, text_at}
use Rattle.image_reader.proofs.Loops.{goes_on, ends, is_done}
use Rattle.image_reader.proofs.lists.texts_of.Goals as goal

pub returns-in_err-text : goal.returns-in_err-text
returns-in_err-text c =
    let p = err_from_is_err_and c.from_residual-in_err-text.result c.from_residual-in_err-text.ensures.1 in
    rw (p.1, p.2) (ends text_at c.in_err-text.field-0.0 (map string_bytes c.loop.items.items) c.in_ok-count.count c.loop.counter c.loop.rest.now (list_at text_at c.args.bytes.now) c.loop-test.true c.in_err-text.ensures c.loop.invariant)

pub loop-preserved : goal.loop-preserved
loop-preserved c =
    let e : map string_bytes c.push.new.self.items ≡ map string_bytes c.loop.items.items ++ string_bytes c.in_ok-text.text ∷ [] = rw c.in_ok-push.ensures.items (map_push _ c.loop.items.items c.in_ok-text.text) in
    rw e (goes_on text_at (map string_bytes c.loop.items.items) c.in_ok-count.count c.loop.counter c.loop.rest.now (string_bytes c.in_ok-text.text) c.in_ok-text.behind.now (list_at text_at c.args.bytes.now) c.loop-test.true c.in_ok-text.ensures c.loop.invariant)

pub returns : goal.returns
returns c = rw c.shrink_to_fit.ensures.items (is_done text_at (map string_bytes c.loop.items.items) c.in_ok-count.count c.loop.counter c.loop.rest.now (list_at text_at c.args.bytes.now) c.loop-test.false c.loop.invariant)
