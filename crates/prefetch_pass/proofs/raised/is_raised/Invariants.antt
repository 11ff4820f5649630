use Rattle.std.proofs.Common.{◌≡◌, take}
use Rattle.prefetch_pass.specs.Gathered.{last_mark}
use Rattle.prefetch_pass.proofs.raised.is_raised.Given as goal

abbrev pub invariant-loop-marks : goal.invariant-loop-marks
invariant-loop-marks l = l.raised ≡ last_mark (take l.marks-index l.loops) l.register
