use Rattle.std.proofs.Common.{◌≡◌, ◌++◌, ◌∷◌, [], map}
use Rattle.std.proofs.lemmas.Result.{err_from_is_err_and}
use Rattle.std.proofs.lemmas.List.{map_push}
use Rattle.code_form.specs.Form.{instruction_of}
use Rattle.image_reader.specs.Reading.{list_at, instruction_at}
use Rattle.image_reader.proofs.Loops.{goes_on, ends, is_done}
use Rattle.image_reader.proofs.lists.code_of.Goals as goal

pub returns-in_err-instruction : goal.returns-in_err-instruction
returns-in_err-instruction c =
    let p = err_from_is_err_and c.from_residual-in_err-instruction.result c.from_residual-in_err-instruction.ensures.1 in
    rw (p.1, p.2) (ends instruction_at c.in_err-instruction.field-0.0 (map instruction_of c.loop.items.items) c.in_ok-count.count c.loop.counter c.loop.rest.now (list_at instruction_at c.args.bytes.now) c.loop-test.true c.in_err-instruction.ensures c.loop.invariant)

pub loop-preserved : goal.loop-preserved
loop-preserved c =
    let e : map instruction_of c.push.new.self.items ≡ map instruction_of c.loop.items.items ++ instruction_of c.in_ok-instruction.instruction ∷ [] = rw c.in_ok-push.ensures.items (map_push _ c.loop.items.items c.in_ok-instruction.instruction) in
    rw e (goes_on instruction_at (map instruction_of c.loop.items.items) c.in_ok-count.count c.loop.counter c.loop.rest.now (instruction_of c.in_ok-instruction.instruction) c.in_ok-instruction.behind.now (list_at instruction_at c.args.bytes.now) c.loop-test.true c.in_ok-instruction.ensures c.loop.invariant)

pub returns : goal.returns
returns c = rw c.shrink_to_fit.ensures.items (is_done instruction_at (map instruction_of c.loop.items.items) c.in_ok-count.count c.loop.counter c.loop.rest.now (list_at instruction_at c.args.bytes.now) c.loop-test.false c.loop.invariant)
