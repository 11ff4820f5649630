use Rattle.std.proofs.Common.{◌≡◌, Option, Some, rules, subst, sym}
use Rattle.code_form.specs.Form.{function_of, image_of, instruction_of}
use Rattle.scope_verifier_laws.specs.declared.fault.VerifyFault.{VerifyFault}
use Rattle.scope_verifier_laws.specs.Faults.{fitting_fault, open_fault}
use Rattle.scope_verifier_laws.specs.First.{first_of}
use Rattle.scope_verifier.specs.Answers.{Tells}
use Rattle.scope_verifier.proofs.Steps.{first, second}
use Rattle.scope_verifier.proofs.facts.allowed.Goals as goal

pub returns-in_err-fitting : goal.returns-in_err-fitting
returns-in_err-fitting c = λ R S k h.
    let f = function_of c.args.function.now in
    let i = instruction_of c.args.instruction.now in
    let a = fitting_fault (image_of c.args.image.now) f k i in
    let e : first_of a (open_fault f k i) ≡ Some c.in_err-fitting.field-0.0 = first a (open_fault f k i) c.in_err-fitting.field-0.0 (c.in_err-fitting.ensures R S k h) in
    search (rules, e)

pub returns : goal.returns
returns c = λ R S k h.
    let f = function_of c.args.function.now in
    let i = instruction_of c.args.instruction.now in
    subst (λ (o : Option VerifyFault). Tells c.closed.result o) (sym (second (fitting_fault (image_of c.args.image.now) f k i) (open_fault f k i) (c.in_ok-fitting.ensures R S k h))) (c.closed.ensures R S k h)
