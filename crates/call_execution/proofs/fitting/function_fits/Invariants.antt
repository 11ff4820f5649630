use Rattle.std.proofs.Common.{◌≡◌, drop}
use Rattle.std.specs.Prelude.{map}
use Rattle.std.specs.List.{list_all}
use Rattle.code_form.specs.Form.{block_of, function_of, image_of}
use Rattle.call_execution.specs.Fitting.{are_fit, is_function_fit}
use Rattle.call_execution.proofs.fitting.function_fits.Given as goal

abbrev pub invariant-loop-block : goal.invariant-loop-block
invariant-loop-block l =
    let C = image_of l.image in
    let g = function_of l.function in
    is_function_fit C g ≡ list_all (λ b. are_fit C g b.code) (map block_of (drop l.block-index l.function.blocks.items))
