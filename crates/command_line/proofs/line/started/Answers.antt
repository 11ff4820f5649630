use Rattle.clap.specs.Words.{found_of}
use Rattle.command_line.specs.Shell.{compiling_of, memory_of, work_of}
use Rattle.command_line.proofs.Found.{started_is}
use Rattle.command_line.proofs.line.started.Goals as goal

pub returns : goal.returns
returns c =
    started_is (found_of c.args.matches.now) (compiling_of c.in-Some.compiling) (memory_of c.in-Some-memory.memory) c.in-Some-short_option.evacuators c.in-Some-short_option-2.fetchers (work_of c.in-Some-work.work) c.flag-stats.result c.flag-explains.result c.in-Some-limit.limit
    c.in-Some.ensures c.in-Some-memory.ensures c.in-Some-short_option.ensures c.in-Some-short_option-2.ensures c.in-Some-work.ensures c.flag-stats.ensures c.flag-explains.ensures c.in-Some-limit.ensures
