use Rattle.std.proofs.Common.{◌≡◌, drop}
use Rattle.call_execution.specs.Hinting.{has_one}
use Rattle.call_execution.proofs.hinted.have.Given as goal

abbrev pub invariant-loop-stretch : goal.invariant-loop-stretch
invariant-loop-stretch l = has_one l.stretches l.reference l.index ≡ has_one (drop l.stretch-index l.stretches) l.reference l.index
