use Rattle.std.proofs.Common.{◌∙◌, None, Some, map}
use Rattle.clap.specs.Words.{found_of}
use Rattle.command_line.specs.Shell.{started_of}
use Rattle.command_line.proofs.Found.{live_is}
use Rattle.command_line.proofs.line.runs_live.Goals as goal

pub returns-in_default-get_strs : goal.returns-in_default-get_strs
returns-in_default-get_strs c = live_is (found_of c.args.matches.now) (started_of c.in-Some.asked) None c.in-Some.ensures c.in_default-get_strs.ensures

pub returns : goal.returns
returns c = c.live_of.ensures ∙ live_is (found_of c.args.matches.now) (started_of c.in-Some.asked) (Some (map (λ f. f.now) c.in-Some-get_strs.files.now)) c.in-Some.ensures c.in-Some-get_strs.ensures
