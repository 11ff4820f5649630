use Rattle.std.proofs.Common.{sym, ◌∙◌}
use Rattle.c0_lexer.proofs.Signs.{blank_front}
use Rattle.c0_lexer.proofs.piece.longest_piece.Goals as goal

pub returns-then-is_blank : goal.returns-then-is_blank
returns-then-is_blank c = blank_front c.args.mode c.args.text.now c.blank.result c.requires (sym c.is_blank.ensures ∙ c.if-is_blank.true) c.blank.ensures
