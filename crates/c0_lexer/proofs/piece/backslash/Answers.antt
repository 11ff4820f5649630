use Rattle.c0_lexer.proofs.Signs.{result_front, no_result}
use Rattle.c0_lexer.proofs.piece.backslash.Goals as goal

pub returns-in-Plain : goal.returns-in-Plain
returns-in-Plain c = no_result c.args.mode c.args.text.now c.requires c.in-Plain.is

pub returns-in_default : goal.returns-in_default
returns-in_default c = result_front c.args.mode c.args.text.now c.first_entry.result c.requires c.in_default.not-Plain c.first_entry.ensures
