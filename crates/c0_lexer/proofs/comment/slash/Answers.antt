use Rattle.std.proofs.Common.{sym, ◌∙◌, arith}
use Rattle.c0_lexer.proofs.Comments.{update_front, divide_front}
use Rattle.c0_lexer.proofs.comment.slash.Goals as goal

pub returns-in-61 : goal.returns-in-61
returns-in-61 c = update_front c.args.mode c.args.text.now c.requires (sym c.byte_at.ensures ∙ c.in-61.is)

pub returns-in_default : goal.returns-in_default
returns-in_default c = divide_front c.args.mode c.args.text.now c.requires (λ e. omega (arith, c.byte_at.ensures)) (λ e. omega (arith, c.byte_at.ensures)) (λ e. omega (arith, c.byte_at.ensures))
