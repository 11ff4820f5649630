use Rattle.clap.specs.Words.{found_of}
use Rattle.command_line.specs.Shell.{texts_of}
use Rattle.command_line.proofs.Found.{bound_is}
use Rattle.command_line.proofs.line.bound.Goals as goal

pub returns : goal.returns
returns c =
    bound_is (found_of c.args.matches.now) (texts_of c.in-Some.texts) c.in-Some-turns.turns c.in-Some-limit.limit c.flag.result c.in-Some.ensures
    c.in-Some-turns.ensures c.in-Some-limit.ensures c.flag.ensures
