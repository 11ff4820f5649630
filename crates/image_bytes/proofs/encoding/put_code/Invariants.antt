use Rattle.std.proofs.Common.{◌≡◌, ◌++◌, length, map, take}
use Rattle.std.specs.List.{flat_map}
use Rattle.code_form.specs.Form.{instruction_of}
use Rattle.image_bytes.specs.Bytes.{instruction_bytes, word}
use Rattle.image_bytes.proofs.encoding.put_code.Given as goal

abbrev pub invariant-loop-instruction : goal.invariant-loop-instruction
invariant-loop-instruction l = l.out.items ≡ l.fn.out.items ++ (word (length l.code) ++ flat_map instruction_bytes (map instruction_of (take l.instruction-index l.code)))
