use Rattle.std.proofs.Common.{length}
use Rattle.command_messages.proofs.wants.+write_limits.Given as goal

abbrev pub decreases-write_limits : goal.decreases-write_limits
decreases-write_limits g l = length l.programs.now
