use Rattle.c0_grammar_laws.proofs.FirstFaults.{limits}
use Rattle.c0_grammar_laws.proofs.laws.limits_are_these.Goals as goal

pub returns : goal.returns
returns c = limits
