use Rattle.std.proofs.Common.{map, take}
use Rattle.std.specs.List.{AllByRecursion}
use Rattle.image_bytes.specs.Encodable.{LayoutFits}
use Rattle.image_bytes.proofs.encodable.layouts_fit.Given as goal

abbrev pub invariant-loop-layout : goal.invariant-loop-layout
invariant-loop-layout l = AllByRecursion LayoutFits (map (λ l. l.items) (take l.layout-index l.layouts))
