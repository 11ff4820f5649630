use Rattle.c0_grammar_laws.proofs.CompletePrograms.{complete_program}
use Rattle.c0_grammar_laws.proofs.SoundPrograms.{sound_program}
use Rattle.c0_grammar_laws.proofs.laws.reads_exactly.Goals as goal

pub returns : goal.returns
returns c = λ loops ts program. (sound_program loops ts program, complete_program loops ts program)
