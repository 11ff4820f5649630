use Rattle.std.proofs.Common.{length}
use Rattle.command_messages.proofs.stats.+write_movers.Given as goal

abbrev pub decreases-write_movers : goal.decreases-write_movers
decreases-write_movers g l = length l.movers.now
