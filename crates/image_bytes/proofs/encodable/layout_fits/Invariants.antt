use Rattle.std.proofs.Common.{take}
use Rattle.std.specs.List.{AllByRecursion}
use Rattle.image_bytes.specs.Encodable.{CellFits}
use Rattle.image_bytes.proofs.encodable.layout_fits.Given as goal

abbrev pub invariant-loop-kind : goal.invariant-loop-kind
invariant-loop-kind l = AllByRecursion CellFits (take l.kind-index l.layout)
