use Rattle.schedule_replay.proofs.Never.{never}
use Rattle.schedule_replay.proofs.laws.never_fails.Goals as goal

pub returns : goal.returns
returns c = never c.every_schedule.ensures.sound c.wants.ensures.wanted
