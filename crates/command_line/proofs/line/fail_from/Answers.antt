use Rattle.std.proofs.Common.{◌∙◌, Some, None}
use Rattle.std.specs.Prelude.{codes}
use Rattle.clap.specs.Words.{found_of}
use Rattle.command_line.specs.Shell.{number_in}
use Rattle.command_line.proofs.Found.{option_is}
use Rattle.command_line.proofs.line.fail_from.Goals as goal

pub returns-in-Some : goal.returns-in-Some
returns-in-Some c = c.number.ensures ∙ option_is (found_of c.args.matches.now) (codes "fail-from") number_in 0 (Some c.in-Some.text.now) c.in-Some.ensures

pub returns-in-None : goal.returns-in-None
returns-in-None c = option_is (found_of c.args.matches.now) (codes "fail-from") number_in 0 None c.in-None.ensures
