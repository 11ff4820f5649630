use Rattle.c0_lexer.proofs.Words.{word_front}
use Rattle.c0_lexer.proofs.word.word.Goals as goal

pub returns : goal.returns
returns c = word_front c.args.mode c.args.text.now c.word_length-length.result c.word_kind.result c.requires.some c.requires.blank c.requires.letter c.word_length-length.ensures.value c.word_kind.ensures
