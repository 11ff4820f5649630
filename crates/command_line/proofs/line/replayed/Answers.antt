use Rattle.std.proofs.Common.{Some, None}
use Rattle.clap.specs.Words.{found_of}
use Rattle.command_line.specs.Shell.{compiling_of, memory_of, work_of}
use Rattle.command_line.proofs.Found.{replayed_is}
use Rattle.command_line.proofs.line.replayed.Goals as goal

pub returns-in_default-get_str : goal.returns-in_default-get_str
returns-in_default-get_str c =
    replayed_is (found_of c.args.matches.now) (compiling_of c.in-Some.compiling) (memory_of c.in-Some-memory.memory) c.in-Some-short_option.evacuators c.in-Some-short_option-2.fetchers (work_of c.in-Some-work.work) None
    c.in-Some.ensures c.in-Some-memory.ensures c.in-Some-short_option.ensures c.in-Some-short_option-2.ensures c.in-Some-work.ensures c.in_default-get_str.ensures

pub returns : goal.returns
returns c =
    replayed_is (found_of c.args.matches.now) (compiling_of c.in-Some.compiling) (memory_of c.in-Some-memory.memory) c.in-Some-short_option.evacuators c.in-Some-short_option-2.fetchers (work_of c.in-Some-work.work) (Some c.in-Some-get_str.schedule.now)
    c.in-Some.ensures c.in-Some-memory.ensures c.in-Some-short_option.ensures c.in-Some-short_option-2.ensures c.in-Some-work.ensures c.in-Some-get_str.ensures
