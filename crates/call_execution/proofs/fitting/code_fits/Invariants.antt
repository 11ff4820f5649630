use Rattle.std.proofs.Common.{◌≡◌, drop}
use Rattle.std.specs.Prelude.{map}
use Rattle.code_form.specs.Form.{function_of, image_of, instruction_of}
use Rattle.call_execution.specs.Fitting.{are_fit}
use Rattle.call_execution.proofs.fitting.code_fits.Given as goal

abbrev pub invariant-loop-at : goal.invariant-loop-at
invariant-loop-at l = are_fit (image_of l.image) (function_of l.function) (map instruction_of l.code) ≡ are_fit (image_of l.image) (function_of l.function) (map instruction_of (drop l.at l.code))
