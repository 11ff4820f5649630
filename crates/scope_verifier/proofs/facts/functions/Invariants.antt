use Rattle.std.proofs.Common.{◌≡◌, drop, map}
use Rattle.code_form.specs.Form.{function_of, image_of}
use Rattle.scope_verifier_laws.specs.Faults.{function_fault}
use Rattle.scope_verifier_laws.specs.First.{first_in}
use Rattle.scope_verifier.proofs.facts.functions.Given as goal

abbrev pub invariant-loop-part : goal.invariant-loop-part
invariant-loop-part l = first_in (function_fault (image_of l.image)) (map function_of l.parts) ≡ first_in (function_fault (image_of l.image)) (map function_of (drop l.part-index l.parts))
