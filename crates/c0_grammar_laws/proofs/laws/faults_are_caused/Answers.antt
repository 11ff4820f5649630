use Rattle.c0_grammar_laws.proofs.AlikePrograms.{caused}
use Rattle.c0_grammar_laws.proofs.laws.faults_are_caused.Goals as goal

pub returns : goal.returns
returns c = caused
