use Rattle.std.proofs.Common.{length}
use Rattle.command_messages.proofs.say.+status_of_finished.Given as goal

abbrev pub decreases-status_of_finished : goal.decreases-status_of_finished
decreases-status_of_finished l = length l.programs.now
