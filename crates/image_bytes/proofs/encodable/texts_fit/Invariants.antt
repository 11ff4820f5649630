use Rattle.std.proofs.Common.{map, take}
use Rattle.std.specs.List.{AllByRecursion}
use Rattle.std.specs.Prelude.{string_bytes}
use Rattle.image_bytes.specs.Encodable.{TextFits}
use Rattle.image_bytes.proofs.encodable.texts_fit.Given as goal

abbrev pub invariant-loop-text : goal.invariant-loop-text
invariant-loop-text l = AllByRecursion TextFits (map string_bytes (take l.text-index l.texts))
