use Rattle.std.proofs.Common.{◌≡◌, drop, map}
use Rattle.std.specs.List.{list_all}
use Rattle.code_form.specs.Counts.{few_in_function}
use Rattle.code_form.specs.Form.{function_of}
use Rattle.codegen.proofs.counts.few_in_functions.Given as goal

abbrev pub invariant-loop-function : goal.invariant-loop-function
invariant-loop-function l = list_all few_in_function (map function_of l.functions) ≡ list_all few_in_function (map function_of (drop l.function-index l.functions))
