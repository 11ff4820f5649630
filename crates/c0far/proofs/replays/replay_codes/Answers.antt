use Rattle.std.proofs.Common.{ap}
use Rattle.std.specs.Prelude.{option_map}
use Rattle.command_line.specs.Shell.{replayed_of}
use Rattle.c0far.proofs.Replayed.{replays_in_folder, replays_in_memory}
use Rattle.c0far.proofs.Rooms.{has_room}
use Rattle.c0far.proofs.replays.replay_codes.Goals as goal

pub returns-in-None-clause-done : goal.returns-in-None-clause-done
returns-in-None-clause-done g c =
    λ names codes. replays_in_memory g.F.Place.Folder.honest (replayed_of c.args.asked) names (g.F.Files.holds c.args.files.now) _ _ _ (c.replay_over.ensures.done names codes)

pub returns-in-Ok-clause-done : goal.returns-in-Ok-clause-done
returns-in-Ok-clause-done g c =
    λ names codes. replays_in_folder g.F.Place.Folder.honest (replayed_of c.args.asked) c.in-Some.name.now names (g.F.Files.holds c.args.files.now) _ _ _ (ap (option_map (λ s. s.now)) c.in-Some.is) (c.replay_over-in-Ok.ensures.done names codes)

pub replay_over-requires-in-Ok-after_bounds : goal.replay_over-requires-in-Ok-after_bounds
replay_over-requires-in-Ok-after_bounds g c κs within = has_room c.args.programs.items
