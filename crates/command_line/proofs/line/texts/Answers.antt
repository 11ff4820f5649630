use Rattle.clap.specs.Words.{found_of}
use Rattle.c0_syntax.specs.Levels.{has_loops}
use Rattle.command_line.proofs.Found.{texts_are}
use Rattle.command_line.proofs.line.texts.Goals as goal

pub returns : goal.returns
returns c = texts_are (found_of c.args.matches.now) (has_loops c.in-Some.level) _ c.in-Some.ensures c.checks-checks.ensures
