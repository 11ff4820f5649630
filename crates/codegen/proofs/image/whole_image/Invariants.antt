use Rattle.std.proofs.Common.{◌≡◌, map, take}
use Rattle.code_form.specs.Form.{function_of as function_read}
use Rattle.middle_form.specs.ScopedViews.{scoped_function_of}
use Rattle.codegen.specs.Generated.{function_of as function_with}
use Rattle.codegen.proofs.image.whole_image.Given as goal

abbrev pub invariant-loop-function : goal.invariant-loop-function
invariant-loop-function l = map function_read l.functions.items ≡ map function_with (map scoped_function_of (take l.function-index l.function-items))
