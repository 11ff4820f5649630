use Rattle.c0_source.proofs.Once.{one_spelling}
use Rattle.c0_source.proofs.laws.one_spelling.Goals as goal

pub returns : goal.returns
returns c = one_spelling
