use Rattle.c0_grammar_laws.proofs.FirstFaults.{first}
use Rattle.c0_grammar_laws.proofs.laws.faults_are_first.Goals as goal

pub returns : goal.returns
returns c = first
