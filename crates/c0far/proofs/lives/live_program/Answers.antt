use Rattle.std.proofs.Common.{ap}
use Rattle.std.specs.Prelude.{option_map}
use Rattle.command_line.specs.Shell.{memory_of}
use Rattle.streams.specs.Streams.{writes}
use Rattle.c0far.proofs.Lived.{lived_in_folder, lived_in_memory}
use Rattle.c0far.proofs.Rooms.{has_room}
use Rattle.c0far.proofs.lives.live_program.Goals as goal

pub returns-in-None-clause-ended : goal.returns-in-None-clause-ended
returns-in-None-clause-ended g c =
    lived_in_memory g.F.Place.Folder.honest (memory_of c.args.asked.memory) c.args.programs.items (writes g.O.Stream.contents g.O.Stream.failures c.args.out.now c.live_over.new.out) c.live_over.result c.requires c.live_over.ensures.ended c.live_over.ensures.finished

pub returns-in-Ok-clause-ended : goal.returns-in-Ok-clause-ended
returns-in-Ok-clause-ended g c =
    lived_in_folder g.F.Place.Folder.honest (memory_of c.args.asked.memory) c.in-Some.name.now c.args.programs.items (writes g.O.Stream.contents g.O.Stream.failures c.args.out.now c.live_over-in-Ok.new.out) c.live_over-in-Ok.result
    c.requires (ap (option_map (λ s. s.now)) c.in-Some.is) c.live_over-in-Ok.ensures.ended c.live_over-in-Ok.ensures.finished

pub live_over-requires-in-Ok-clause-makes : goal.live_over-requires-in-Ok-clause-makes
live_over-requires-in-Ok-clause-makes g c κs within = has_room c.args.programs.items
