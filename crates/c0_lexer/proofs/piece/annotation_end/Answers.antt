use Rattle.c0_lexer.proofs.Signs.{end_front, no_end}
use Rattle.c0_lexer.proofs.piece.annotation_end.Goals as goal

pub returns-in-Block : goal.returns-in-Block
returns-in-Block c = end_front c.args.mode c.args.text.now c.first_entry.result c.requires c.in-Block.is c.first_entry.ensures

pub returns-in_default : goal.returns-in_default
returns-in_default c = no_end c.args.mode c.args.text.now c.requires c.in_default.not-Block
