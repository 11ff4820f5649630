use Rattle.c0far_headline.proofs.Ends.{replayed}
use Rattle.c0far_headline.proofs.headline_of_replays.Goals as goal

pub returns : goal.returns
returns c = replayed c.headline_of_admitted.ensures
