use Rattle.std.proofs.Common.{sym, ◌∙◌}
use Rattle.c0_lexer.proofs.Numbers.{number_front, no_number_front}
use Rattle.c0_lexer.proofs.number.number.Goals as goal

pub returns-in_err-value : goal.returns-in_err-value
returns-in_err-value c =
    let none = sym c.number_value.ensures ∙ c.in_err-value.was in
    rw c.from_residual.ensures (no_number_front c.args.mode c.args.text.now c.word_length-length.result c.requires.some c.requires.blank c.requires.letter c.requires.digit c.word_length-length.ensures.value none)

pub returns : goal.returns
returns c =
    let value = sym c.number_value.ensures ∙ c.in_ok-value.was in
    number_front c.args.mode c.args.text.now c.word_length-length.result c.in_ok-value.value c.requires.some c.requires.blank c.requires.letter c.requires.digit c.word_length-length.ensures.value value
