use Rattle.std.proofs.Common.{◌≡◌, drop, map}
use Rattle.code_form.specs.Form.{function_of, image_of}
use Rattle.scope_verifier_laws.specs.First.{first_in}
use Rattle.scope_verifier_laws.specs.Numbers.{function_numbers}
use Rattle.scope_verifier.proofs.numbers.functions_numbers.Given as goal

abbrev pub invariant-loop-function : goal.invariant-loop-function
invariant-loop-function l = first_in (function_numbers (image_of l.image)) (map function_of l.functions) ≡ first_in (function_numbers (image_of l.image)) (map function_of (drop l.function-index l.functions))
