use Rattle.std.proofs.Common.{◌≡◌, Some, arith, length, map, rules}
use Rattle.code_form.specs.Form.{function_of, image_of, instruction_of}
use Rattle.code_form.specs.Known.{after}
use Rattle.scope_verifier_laws.specs.Faults.{code_fault}
use Rattle.scope_verifier.proofs.Places.{placed}
use Rattle.scope_verifier.proofs.Walks.{ends, goes, stops}
use Rattle.scope_verifier.proofs.facts.code.Goals as goal

pub returns-in_err-allowed : goal.returns-in_err-allowed
returns-in_err-allowed c = λ k h.
    let C = image_of c.args.image.now in
    let f = function_of c.args.function.now in
    let is = c.args.instructions.now in
    let i = c.loop-instruction.instruction-index in
    let v = c.loop-instruction.invariant k h in
    let x = c.instruction-item.result in
    let g = c.in_err-allowed.field-0.0 in
    let e : code_fault C f k (map instruction_of is) ≡ Some g = stops C f k v.0 is i v.2 x (omega arith) c.instruction-item.is g (c.in_err-allowed.ensures (length f.kinds) f.scopes v.0 v.1) in
    search (rules, e)

pub loop-instruction-preserved : goal.loop-instruction-preserved
loop-instruction-preserved c = λ k h.
    let C = image_of c.args.image.now in
    let f = function_of c.args.function.now in
    let is = c.args.instructions.now in
    let i = c.loop-instruction.instruction-index in
    let v = c.loop-instruction.invariant k h in
    let x = c.instruction-item.result in
    let none = c.in_ok-allowed.ensures (length f.kinds) f.scopes v.0 v.1 in (
      after (instruction_of x) v.0,
      c.in_ok-after.ensures (length f.kinds) f.scopes v.0 v.1 (placed C f v.0 (instruction_of x) none),
      goes C f k v.0 is i v.2 x (omega arith) c.instruction-item.is none,
    )

pub returns : goal.returns
returns c = λ k h.
    let v = c.loop-instruction.invariant k h in
    (ends (image_of c.args.image.now) (function_of c.args.function.now) k v.0 c.args.instructions.now c.loop-instruction.instruction-index v.2 (omega arith), v.1.ready)
