use Rattle.std.proofs.Common.{◌∙◌, Some, None}
use Rattle.clap.specs.Words.{found_of}
use Rattle.command_line.specs.Shell.{short_number_in}
use Rattle.command_line.proofs.Found.{option_is}
use Rattle.command_line.proofs.line.short_option.Goals as goal

pub returns-in-Some : goal.returns-in-Some
returns-in-Some c = c.short_number.ensures ∙ option_is (found_of c.args.matches.now) c.args.name.now short_number_in c.args.default (Some c.in-Some.text.now) c.in-Some.ensures

pub returns-in-None : goal.returns-in-None
returns-in-None c = option_is (found_of c.args.matches.now) c.args.name.now short_number_in c.args.default None c.in-None.ensures
