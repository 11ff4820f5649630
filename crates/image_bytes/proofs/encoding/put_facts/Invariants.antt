use Rattle.std.proofs.Common.{◌≡◌, ◌++◌, length, take}
use Rattle.std.specs.List.{flat_map}
use Rattle.image_bytes.specs.Bytes.{fact_bytes, word}
use Rattle.image_bytes.proofs.encoding.put_facts.Given as goal

abbrev pub invariant-loop-fact : goal.invariant-loop-fact
invariant-loop-fact l = l.out.items ≡ l.fn.out.items ++ (word (length l.facts) ++ flat_map fact_bytes (take l.fact-index l.facts))
