use Rattle.std.proofs.Common.{None, Some, map}
use Rattle.clap.specs.Words.{found_of}
use Rattle.command_line.specs.Shell.{replayed_of}
use Rattle.command_line.proofs.Found.{replay_is}
use Rattle.command_line.proofs.line.replays.Goals as goal

pub returns-in-Ok : goal.returns-in-Ok
returns-in-Ok c = replay_is (found_of c.args.matches.now) (replayed_of c.in-Some.asked) (Some (map (λ f. f.now) c.in-Ok.files.items)) c.in-Some.ensures c.in-Ok.ensures

pub returns-in-Err : goal.returns-in-Err
returns-in-Err c = λ e. replay_is (found_of c.args.matches.now) (replayed_of c.in-Some.asked) None c.in-Some.ensures (c.in-Err.ensures e)
