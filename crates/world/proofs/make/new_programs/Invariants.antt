use Rattle.std.proofs.Common.{◌-◌, ◌≤◌, length}
use Rattle.world.specs.Opened.{AreBegun}
use Rattle.world.proofs.make.new_programs.Given as goal

abbrev pub invariant-loop-alloc : goal.invariant-loop-alloc
invariant-loop-alloc g l = (length l.programs.items ≤ length l.images) × AreBegun l.images l.share l.programs.items

abbrev pub decreases-loop-alloc : goal.decreases-loop-alloc
decreases-loop-alloc g l = length l.images - length l.programs.items
