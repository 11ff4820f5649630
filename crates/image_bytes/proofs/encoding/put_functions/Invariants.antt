use Rattle.std.proofs.Common.{◌≡◌, ◌++◌, length, map, take}
use Rattle.std.specs.List.{flat_map}
use Rattle.code_form.specs.Form.{function_of}
use Rattle.image_bytes.specs.Bytes.{function_bytes, word}
use Rattle.image_bytes.proofs.encoding.put_functions.Given as goal

abbrev pub invariant-loop-function : goal.invariant-loop-function
invariant-loop-function l = l.out.items ≡ l.fn.out.items ++ (word (length l.functions) ++ flat_map function_bytes (map function_of (take l.function-index l.functions)))
