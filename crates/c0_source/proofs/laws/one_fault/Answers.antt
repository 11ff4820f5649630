use Rattle.c0_source.proofs.Once.{one_fault}
use Rattle.c0_source.proofs.laws.one_fault.Goals as goal

pub returns : goal.returns
returns c = one_fault
