use Rattle.std.proofs.Common.{◌≡◌, drop}
use Rattle.std.specs.Prelude.{map}
use Rattle.std.specs.List.{list_all}
use Rattle.code_form.specs.Form.{function_of, image_of}
use Rattle.call_execution.specs.Fitting.{is_function_fit, is_image_fit}
use Rattle.call_execution.proofs.fitting.image_fits.Given as goal

abbrev pub invariant-loop-function : goal.invariant-loop-function
invariant-loop-function l =
    let C = image_of l.image in
    is_image_fit C ≡ list_all (is_function_fit C) (map function_of (drop l.function-index l.image.functions.items))
