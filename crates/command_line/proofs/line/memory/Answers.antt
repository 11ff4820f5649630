use Rattle.clap.specs.Words.{found_of}
use Rattle.command_line.proofs.Found.{memory_is}
use Rattle.command_line.proofs.line.memory.Goals as goal

pub returns : goal.returns
returns c = memory_is (found_of c.args.matches.now) c.in-Some.frames c.in-Some-short_option.objects c.in-Some-fail_from.fail_from _ c.in-Some.ensures c.in-Some-short_option.ensures c.in-Some-fail_from.ensures c.get_str.ensures
