use Rattle.std.proofs.Common.{take}
use Rattle.std.specs.List.{AllByRecursion}
use Rattle.image_bytes.specs.Encodable.{FactFits}
use Rattle.image_bytes.proofs.encodable.facts_fit.Given as goal

abbrev pub invariant-loop-fact : goal.invariant-loop-fact
invariant-loop-fact l = AllByRecursion FactFits (take l.fact-index l.facts)
