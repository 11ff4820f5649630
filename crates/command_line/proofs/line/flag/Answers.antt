use Rattle.std.proofs.Common.{◌∙◌, Some, None}
use Rattle.command_line.proofs.Found.{flag_is}
use Rattle.clap.specs.Words.{found_of}
use Rattle.command_line.proofs.line.flag.Goals as goal

pub returns-in-Some : goal.returns-in-Some
returns-in-Some c = c.eq.ensures ∙ flag_is (found_of c.args.matches.now) c.args.name.now (Some c.in-Some.text.now) c.in-Some.ensures

pub returns-in-None : goal.returns-in-None
returns-in-None c = flag_is (found_of c.args.matches.now) c.args.name.now None c.in-None.ensures
