use Rattle.std.proofs.Common.{map, take}
use Rattle.std.specs.List.{AllByRecursion}
use Rattle.code_form.specs.Form.{function_of}
use Rattle.image_bytes.specs.Encodable.{FunctionFits}
use Rattle.image_bytes.proofs.encodable.functions_fit.Given as goal

abbrev pub invariant-loop-function : goal.invariant-loop-function
invariant-loop-function l = AllByRecursion FunctionFits (map function_of (take l.function-index l.functions))
