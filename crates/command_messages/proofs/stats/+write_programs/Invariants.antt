use Rattle.std.proofs.Common.{length}
use Rattle.command_messages.proofs.stats.+write_programs.Given as goal

abbrev pub decreases-write_programs : goal.decreases-write_programs
decreases-write_programs g l = length l.programs.now
