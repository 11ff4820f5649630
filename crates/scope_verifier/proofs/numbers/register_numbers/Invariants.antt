use Rattle.std.proofs.Common.{◌≡◌, drop}
use Rattle.code_form.specs.Form.{function_of}
use Rattle.scope_verifier_laws.specs.First.{first_in}
use Rattle.scope_verifier_laws.specs.Numbers.{register_fault}
use Rattle.scope_verifier.proofs.numbers.register_numbers.Given as goal

abbrev pub invariant-loop-register : goal.invariant-loop-register
invariant-loop-register l = first_in (register_fault (function_of l.function)) l.registers ≡ first_in (register_fault (function_of l.function)) (drop l.register-index l.registers)
