use Rattle.c0_source.proofs.Blanks.{blank_cuts}
use Rattle.c0_source.proofs.laws.blank_ends.Goals as goal

pub returns : goal.returns
returns c = blank_cuts
