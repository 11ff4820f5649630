use Rattle.c0_source.proofs.Rises.{tokens_rise}
use Rattle.c0_source.proofs.laws.tokens_rise.Goals as goal

pub returns : goal.returns
returns c = tokens_rise
