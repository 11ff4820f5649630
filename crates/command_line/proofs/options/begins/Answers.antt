use Rattle.std.proofs.lemmas.Str.Pattern.{starts_text}
use Rattle.command_line.proofs.options.begins.Goals as goal

pub returns : goal.returns
returns c = starts_text c.starts_with.result c.args.start.now c.args.word.now c.starts_with.ensures.cases
