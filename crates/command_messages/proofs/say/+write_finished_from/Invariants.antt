use Rattle.std.proofs.Common.{length}
use Rattle.command_messages.proofs.say.+write_finished_from.Given as goal

abbrev pub decreases-write_finished_from : goal.decreases-write_finished_from
decreases-write_finished_from g l = length l.programs.now
