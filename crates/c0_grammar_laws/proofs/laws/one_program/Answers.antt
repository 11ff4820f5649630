use Rattle.c0_grammar_laws.proofs.SoundPrograms.{one_program}
use Rattle.c0_grammar_laws.proofs.laws.one_program.Goals as goal

pub returns : goal.returns
returns c = one_program
