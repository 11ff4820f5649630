use Rattle.std.proofs.Common.{◌≡◌, ◌++◌, length, map, take}
use Rattle.std.specs.List.{flat_map}
use Rattle.image_bytes.specs.Bytes.{layout_bytes, word}
use Rattle.image_bytes.proofs.encoding.put_layouts.Given as goal

abbrev pub invariant-loop-layout : goal.invariant-loop-layout
invariant-loop-layout l = l.out.items ≡ l.fn.out.items ++ (word (length l.layouts) ++ flat_map layout_bytes (map (λ v. v.items) (take l.layout-index l.layouts)))
