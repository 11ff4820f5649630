use Rattle.lower.proofs.Programs.{lowered_means_the_same}
use Rattle.lower.proofs.laws.lowered_means_the_same.Goals as goal

pub returns : goal.returns
returns c = lowered_means_the_same
