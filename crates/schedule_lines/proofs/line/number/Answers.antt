use Rattle.std.proofs.Common.{sym}
use Rattle.schedule_lines.proofs.Numbers.{is_no_number, no_great_number}
use Rattle.schedule_lines.proofs.line.number.Goals as goal

pub returns-else-is_plain : goal.returns-else-is_plain
returns-else-is_plain c = is_no_number c.in-Some.number c.args.text.now c.in-Some.rest.now c.in-Some.ensures (sym c.if-is_plain.ensures)

pub returns-in-None : goal.returns-in-None
returns-in-None c = no_great_number c.args.text.now c.in-None.ensures
