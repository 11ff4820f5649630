use Rattle.std.proofs.Common.{take}
use Rattle.prefetch_pass.specs.Gathered.{HasJust}
use Rattle.prefetch_pass.proofs.members.set_of.Given as goal

abbrev pub invariant-loop-place : goal.invariant-loop-place
invariant-loop-place l = HasJust l.set (take l.place l.registers)
