use Rattle.std.proofs.Common.{map}
use Rattle.command_line.specs.Shell.{replayed_of}
use Rattle.c0far.proofs.Codes.{after_quiet, replays_from}
use Rattle.c0far.proofs.replays.replay.Goals as goal

pub returns-in-Ok-clause-done : goal.returns-in-Ok-clause-done
returns-in-Ok-clause-done g c =
    replays_from g.F.Place.Folder.honest (replayed_of c.args.asked) (map (λ n. n.now) c.args.names.now) c.in-Ok.programs.items (g.F.Files.holds c.args.files.now) (g.F.Files.holds c.codes_of.new.files) _ _ _ _
    c.in-Ok.ensures.files (after_quiet g.E.Stream.contents g.E.Stream.failures c.args.err.now c.codes_of.new.err c.replay_codes.new.err c.in-Ok.ensures.quiet) c.in-Ok.ensures.codes c.replay_codes.ensures.done
