use Rattle.scoped_laws.proofs.Sound.{means_same}
use Rattle.scoped_laws.proofs.laws.scoped_means_the_same.Goals as goal

pub returns : goal.returns
returns c = means_same
