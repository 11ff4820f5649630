use Rattle.std.proofs.Common.{◌≡◌, ◌++◌, length, take}
use Rattle.std.specs.List.{flat_map}
use Rattle.image_bytes.specs.Bytes.{kind_bytes, word}
use Rattle.image_bytes.proofs.encoding.put_kinds.Given as goal

abbrev pub invariant-loop-kind : goal.invariant-loop-kind
invariant-loop-kind l = l.out.items ≡ l.fn.out.items ++ (word (length l.kinds) ++ flat_map kind_bytes (take l.kind-index l.kinds))
