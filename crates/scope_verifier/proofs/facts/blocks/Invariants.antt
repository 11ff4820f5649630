use Rattle.std.proofs.Common.{◌≡◌, drop, length, map}
use Rattle.code_form.specs.Form.{block_of, function_of, image_of}
use Rattle.scope_verifier_laws.specs.Faults.{block_fault}
use Rattle.scope_verifier_laws.specs.First.{first_in}
use Rattle.scope_verifier.specs.Shown.{IsReady}
use Rattle.scope_verifier.proofs.facts.blocks.Given as goal

abbrev pub invariant-loop-part : goal.invariant-loop-part
invariant-loop-part l = IsReady (length (function_of l.function).kinds) (function_of l.function).scopes l.fn.known → IsReady (length (function_of l.function).kinds) (function_of l.function).scopes l.known × (first_in (block_fault (image_of l.image) (function_of l.function)) (map block_of l.blocks) ≡ first_in (block_fault (image_of l.image) (function_of l.function)) (map block_of (drop l.part-index l.blocks)))
