use Rattle.std.proofs.Common.{◌≡◌, drop}
use Rattle.code_form.specs.Form.{function_of}
use Rattle.scope_verifier_laws.specs.First.{first_in}
use Rattle.scope_verifier_laws.specs.Numbers.{leading_fault}
use Rattle.scope_verifier.proofs.numbers.leading_numbers.Given as goal

abbrev pub invariant-loop-argument : goal.invariant-loop-argument
invariant-loop-argument l = first_in (leading_fault (function_of l.function)) l.arguments ≡ first_in (leading_fault (function_of l.function)) (drop l.argument-index l.arguments)
