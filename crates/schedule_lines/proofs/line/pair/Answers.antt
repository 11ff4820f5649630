use Rattle.schedule_lines.proofs.Numbers.{not_pair}
use Rattle.schedule_lines.proofs.line.pair.Goals as goal

pub returns-in-None-last : goal.returns-in-None-last
returns-in-None-last c = not_pair c.args.word.now c.args.text.now c.in-Some.rest.now c.in-Some.first c.in-Some.ensures c.in-None-last.ensures
