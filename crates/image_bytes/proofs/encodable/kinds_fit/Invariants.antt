use Rattle.std.proofs.Common.{take}
use Rattle.std.specs.List.{AllByRecursion}
use Rattle.image_bytes.specs.Encodable.{KindFits}
use Rattle.image_bytes.proofs.encodable.kinds_fit.Given as goal

abbrev pub invariant-loop-kind : goal.invariant-loop-kind
invariant-loop-kind l = AllByRecursion KindFits (take l.kind-index l.kinds)
