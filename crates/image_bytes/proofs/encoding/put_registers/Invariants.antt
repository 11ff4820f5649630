use Rattle.std.proofs.Common.{◌≡◌, ◌++◌, length, take}
use Rattle.std.specs.List.{flat_map}
use Rattle.image_bytes.specs.Bytes.{word}
use Rattle.image_bytes.proofs.encoding.put_registers.Given as goal

abbrev pub invariant-loop-register : goal.invariant-loop-register
invariant-loop-register l = l.out.items ≡ l.fn.out.items ++ (word (length l.registers) ++ flat_map word (take l.register-index l.registers))
