use Rattle.std.proofs.Common.{length}
use Rattle.command_messages.proofs.wants.+write_wants.Given as goal

abbrev pub decreases-write_wants : goal.decreases-write_wants
decreases-write_wants g l = length l.programs.now
