use Rattle.schedule_lines.proofs.Numbers.{number_behind}
use Rattle.schedule_lines.proofs.line.numbered.Goals as goal

pub returns-in-Some : goal.returns-in-Some
returns-in-Some c = number_behind c.args.word.now c.args.text.now c.in-Some.rest.now c.number.result c.in-Some.ensures c.number.ensures
