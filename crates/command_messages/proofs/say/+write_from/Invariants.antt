use Rattle.std.proofs.Common.{length}
use Rattle.command_messages.proofs.say.+write_from.Given as goal

abbrev pub decreases-write_from : goal.decreases-write_from
decreases-write_from g l = length l.ends.now
