use Rattle.std.proofs.Common.{map, take}
use Rattle.std.specs.List.{AllByRecursion}
use Rattle.code_form.specs.Form.{instruction_of}
use Rattle.image_bytes.specs.Encodable.{InstructionFits}
use Rattle.image_bytes.proofs.encodable.code_fits.Given as goal

abbrev pub invariant-loop-instruction : goal.invariant-loop-instruction
invariant-loop-instruction l = AllByRecursion InstructionFits (map instruction_of (take l.instruction-index l.code))
