use Rattle.c0far_headline.proofs.Tables.{of_runs}
use Rattle.c0far_headline.proofs.headline_of_runs_together.Goals as goal

pub returns : goal.returns
returns c = of_runs c.headline.ensures
