use Rattle.std.proofs.Common.{◌≡◌, drop}
use Rattle.code_form.specs.Form.{function_of, image_of}
use Rattle.scope_verifier_laws.specs.First.{first_in}
use Rattle.scope_verifier_laws.specs.Numbers.{other_fault}
use Rattle.scope_verifier.proofs.numbers.other_numbers.Given as goal

abbrev pub invariant-loop-argument : goal.invariant-loop-argument
invariant-loop-argument l = first_in (other_fault (image_of l.image) (function_of l.function)) l.arguments ≡ first_in (other_fault (image_of l.image) (function_of l.function)) (drop l.argument-index l.arguments)
