use Rattle.schedule_lines.proofs.Numbers.{no_choice}
use Rattle.schedule_lines.proofs.line.read_line.Goals as goal

pub returns-in-None-choice : goal.returns-in-None-choice
returns-in-None-choice c = no_choice c.in-Some.actor c.args.text.now c.in-Some.rest.now c.in-Some.ensures c.in-None-choice.ensures
