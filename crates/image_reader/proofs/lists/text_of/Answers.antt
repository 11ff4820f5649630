use Rattle.std.proofs.Common.{◌≡◌, ◌++◌, ◌∷◌, [], arith}
use Rattle.std.proofs.lemmas.Result.{err_from_is_err_and}
use Rattle.std.proofs.lemmas.Grind.{common_steps}
use Rattle.std.specs.Prelude.{string_bytes}
use Rattle.image_reader.specs.Reading.{letter_at, list_at, text_at}
use Rattle.image_reader.proofs.Loops.{goes_on, ends, is_done}
use Rattle.image_reader.proofs.lists.text_of.Goals as goal

pub returns-in_err-letter : goal.returns-in_err-letter
unfolding text_at
returns-in_err-letter c =
    let p = err_from_is_err_and c.from_residual-in_err-letter.result c.from_residual-in_err-letter.ensures.1 in
    rw (p.1, p.2) (ends letter_at c.in_err-letter.field-0.0 (string_bytes c.loop.text) c.in_ok-count.count c.loop.counter c.loop.rest.now (list_at letter_at c.args.bytes.now) c.loop-test.true c.in_err-letter.ensures.letter c.loop.invariant)

pub loop-preserved : goal.loop-preserved
loop-preserved c =
    let e : string_bytes c.push.new.self ≡ string_bytes c.loop.text ++ c.in_ok-letter.letter ∷ [] = grind (arith, common_steps) in
    rw e (goes_on letter_at (string_bytes c.loop.text) c.in_ok-count.count c.loop.counter c.loop.rest.now c.in_ok-letter.letter c.in_ok-letter.behind.now (list_at letter_at c.args.bytes.now) c.loop-test.true c.in_ok-letter.ensures.letter c.loop.invariant)

pub returns : goal.returns
unfolding text_at
returns c = is_done letter_at (string_bytes c.loop.text) c.in_ok-count.count c.loop.counter c.loop.rest.now (list_at letter_at c.args.bytes.now) c.loop-test.false c.loop.invariant
