use Rattle.c0far_headline.proofs.Ends.{admitted}
use Rattle.c0far_headline.proofs.headline_of_admitted.Goals as goal

pub returns : goal.returns
returns c = admitted c.headline.ensures c.enough_frames.ensures
