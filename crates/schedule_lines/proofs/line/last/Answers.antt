use Rattle.schedule_lines.proofs.Numbers.{not_last}
use Rattle.schedule_lines.proofs.line.last.Goals as goal

pub returns-in-None-skip : goal.returns-in-None-skip
returns-in-None-skip c = not_last c.args.word.now c.args.text.now c.in-Some.rest.now c.in-Some.number c.in-Some.ensures c.in-None-skip.ensures
