use Rattle.std.proofs.Common.{◌≡◌, drop, map}
use Rattle.code_form.specs.Form.{block_of, function_of, image_of}
use Rattle.scope_verifier_laws.specs.First.{first_in}
use Rattle.scope_verifier_laws.specs.Numbers.{block_numbers}
use Rattle.scope_verifier.proofs.numbers.blocks_numbers.Given as goal

abbrev pub invariant-loop-block : goal.invariant-loop-block
invariant-loop-block l = first_in (block_numbers (image_of l.image) (function_of l.function)) (map block_of l.blocks) ≡ first_in (block_numbers (image_of l.image) (function_of l.function)) (map block_of (drop l.block-index l.blocks))
