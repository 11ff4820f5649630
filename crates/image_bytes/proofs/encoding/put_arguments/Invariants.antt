use Rattle.std.proofs.Common.{◌≡◌, ◌++◌, take}
use Rattle.std.specs.List.{flat_map}
use Rattle.image_bytes.specs.Parts.{argument_bytes}
use Rattle.image_bytes.proofs.encoding.put_arguments.Given as goal

abbrev pub invariant-loop-argument : goal.invariant-loop-argument
invariant-loop-argument l = l.out.items ≡ l.fn.out.items ++ flat_map argument_bytes (take l.argument-index l.arguments)
