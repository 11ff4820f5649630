use Rattle.clap.specs.Words.{found_of}
use Rattle.command_line.proofs.Found.{work_is}
use Rattle.command_line.proofs.line.work.Goals as goal

pub returns : goal.returns
returns c = work_is (found_of c.args.matches.now) c.in-Some.workers c.in-Some-short_option.quantum c.in-Some.ensures c.in-Some-short_option.ensures
