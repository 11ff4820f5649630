use Rattle.std.proofs.Common.{◌∙◌, Some, None}
use Rattle.clap.specs.Words.{found_of}
use Rattle.command_line.proofs.Found.{file_is}
use Rattle.command_line.proofs.line.of_file.Goals as goal

pub returns-in_default : goal.returns-in_default
returns-in_default c = file_is (found_of c.args.matches.now) c.args.name.now None c.in_default.ensures

pub returns-in-Some-named : goal.returns-in-Some-named
returns-in-Some-named c = c.in-Some-named.ensures ∙ file_is (found_of c.args.matches.now) c.args.name.now (Some c.in-Some.file.now) c.in-Some.ensures
