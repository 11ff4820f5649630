use Rattle.std.proofs.Common.{◌≡◌, drop, map}
use Rattle.code_form.specs.Form.{function_of, image_of, instruction_of}
use Rattle.scope_verifier_laws.specs.Numbers.{code_numbers}
use Rattle.scope_verifier.proofs.numbers.code_numbers.Given as goal

abbrev pub invariant-loop-index : goal.invariant-loop-index
invariant-loop-index l = code_numbers (image_of l.image) (function_of l.function) (map instruction_of l.code) ≡ code_numbers (image_of l.image) (function_of l.function) (map instruction_of (drop l.index l.code))
