use Rattle.std.proofs.Common.{length}
use Rattle.command_messages.proofs.say.+status_of_all.Given as goal

abbrev pub decreases-status_of_all : goal.decreases-status_of_all
decreases-status_of_all l = length l.ends.now
