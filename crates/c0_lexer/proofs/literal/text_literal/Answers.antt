use Rattle.std.proofs.Common.{sym, ap, ◌∙◌, false}
use Rattle.std.proofs.lemmas.List.{take_rest}
use Rattle.c0_lexer.specs.Ends.{text_end}
use Rattle.c0_lexer.proofs.Literals.{text_front, no_text}
use Rattle.c0_lexer.proofs.literal.text_literal.Goals as goal

pub returns-in_err-length : goal.returns-in_err-length
returns-in_err-length c =
    let none = sym (c.text_length.ensures.value ∙ ap (text_end false 1) (take_rest c.args.text.now 1)) ∙ c.in_err-length.was in
    rw c.from_residual.ensures (no_text c.args.mode c.args.text.now c.requires none)

pub returns : goal.returns
returns c =
    let end = sym (c.text_length.ensures.value ∙ ap (text_end false 1) (take_rest c.args.text.now 1)) ∙ c.in_ok-length.was in
    text_front c.args.mode c.args.text.now c.in_ok-length.length c.requires end
