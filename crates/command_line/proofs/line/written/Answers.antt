use Rattle.std.proofs.Common.{Some, None}
use Rattle.clap.specs.Words.{found_of}
use Rattle.command_line.specs.Shell.{compiling_of}
use Rattle.command_line.proofs.Found.{build_is}
use Rattle.command_line.proofs.line.written.Goals as goal

pub returns-in_default-get_str : goal.returns-in_default-get_str
returns-in_default-get_str c = build_is (found_of c.args.matches.now) (compiling_of c.in-Some.compiling) None c.args.file.now c.in-Some.ensures c.in_default-get_str.ensures

pub returns : goal.returns
returns c = build_is (found_of c.args.matches.now) (compiling_of c.in-Some.compiling) (Some c.in-Some-get_str.out.now) c.args.file.now c.in-Some.ensures c.in-Some-get_str.ensures
