use Rattle.std.proofs.Common.{take}
use Rattle.std.specs.List.{AllByRecursion}
use Rattle.image_bytes.specs.Parts.{ArgumentFits}
use Rattle.image_bytes.proofs.encodable.arguments_fit.Given as goal

abbrev pub invariant-loop-argument : goal.invariant-loop-argument
invariant-loop-argument l = AllByRecursion ArgumentFits (take l.argument-index l.arguments)
