use Rattle.std.proofs.Common.{◌≡◌, map}
use Rattle.scoped_building.specs.Building.{codes}
use Rattle.prefetch_pass.specs.Prefetched.{hinted}
use Rattle.prefetch_pass.proofs.hints.+hinting.Given as goal

abbrev pub invariant-hint_code-loop-part : goal.invariant-hint_code-loop-part
invariant-hint_code-loop-part l = codes l.parts.items ≡ map (hinted l.ahead l.offsets.registers.items) (codes l.yielded)
