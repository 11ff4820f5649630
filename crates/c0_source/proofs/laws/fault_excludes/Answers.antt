use Rattle.c0_source.proofs.Once.{fault_excludes}
use Rattle.c0_source.proofs.laws.fault_excludes.Goals as goal

pub returns : goal.returns
returns c = fault_excludes
