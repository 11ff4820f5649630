use Rattle.std.proofs.Common.{◌≡◌, drop, length, map}
use Rattle.code_form.specs.Form.{function_of, image_of, instruction_of}
use Rattle.code_form.specs.Known.{Known}
use Rattle.scope_verifier_laws.specs.Faults.{code_fault}
use Rattle.scope_verifier.specs.Shown.{Shows}
use Rattle.scope_verifier.proofs.facts.code.Given as goal

abbrev pub invariant-loop-instruction : goal.invariant-loop-instruction
invariant-loop-instruction l = (k : Known) → Shows (length (function_of l.function).kinds) (function_of l.function).scopes l.fn.known k → (j : Known) × Shows (length (function_of l.function).kinds) (function_of l.function).scopes l.known j × (code_fault (image_of l.image) (function_of l.function) k (map instruction_of l.instructions) ≡ code_fault (image_of l.image) (function_of l.function) j (map instruction_of (drop l.instruction-index l.instructions)))
