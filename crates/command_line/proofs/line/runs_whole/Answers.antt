use Rattle.std.proofs.Common.{None, Some, map}
use Rattle.clap.specs.Words.{found_of}
use Rattle.command_line.specs.Shell.{started_of}
use Rattle.command_line.proofs.Found.{run_of_files}
use Rattle.command_line.proofs.line.runs_whole.Goals as goal

pub returns-in-Ok : goal.returns-in-Ok
returns-in-Ok c = run_of_files (found_of c.args.matches.now) (started_of c.in-Some.asked) (Some (map (λ f. f.now) c.in-Ok.files.items)) c.in-Some.ensures c.in-Ok.ensures

pub returns-in-Err : goal.returns-in-Err
returns-in-Err c = λ e. run_of_files (found_of c.args.matches.now) (started_of c.in-Some.asked) None c.in-Some.ensures (c.in-Err.ensures e)
