use Rattle.std.proofs.Common.{ap}
use Rattle.std.specs.Prelude.{option_map}
use Rattle.command_line.specs.Shell.{memory_of}
use Rattle.region.specs.Admission.{image_at}
use Rattle.c0far.proofs.Ran.{ran_in_folder, ran_in_memory}
use Rattle.c0far.proofs.Rooms.{has_room}
use Rattle.c0far.proofs.Together.{one_in_folder, one_in_memory}
use Rattle.c0far.specs.Runs.{world_over}
use Rattle.c0far.proofs.runs.run_programs.Goals as goal

pub returns-in-None-clause-ended : goal.returns-in-None-clause-ended
returns-in-None-clause-ended g c = ran_in_memory g.F.Place.Folder.honest (memory_of c.args.asked.memory) c.args.programs.items c.run_over.result c.run_over.ensures.ended

pub returns-in-Ok-clause-ended : goal.returns-in-Ok-clause-ended
returns-in-Ok-clause-ended g c =
    ran_in_folder g.F.Place.Folder.honest (memory_of c.args.asked.memory) c.in-Some.name.now c.args.programs.items c.run_over-in-Ok.result (ap (option_map (λ s. s.now)) c.in-Some.is) c.run_over-in-Ok.ensures.ended

pub run_over-requires-in-Ok-after_bounds : goal.run_over-requires-in-Ok-after_bounds
run_over-requires-in-Ok-after_bounds g c κs within = has_room c.args.programs.items

pub returns-in-None-clause-together : goal.returns-in-None-clause-together
returns-in-None-clause-together g c =
    let a = c.args.asked in
    let all = c.args.programs.items in
    one_in_memory g.F.Place.Folder.honest (memory_of a.memory) (world_over (memory_of a.memory) a.evacuators a.fetchers all) (image_at all) c.run_over.result c.run_over.ensures.together

pub returns-in-Ok-clause-together : goal.returns-in-Ok-clause-together
returns-in-Ok-clause-together g c =
    let a = c.args.asked in
    let all = c.args.programs.items in
    one_in_folder g.F.Place.Folder.honest (memory_of a.memory) c.in-Some.name.now (world_over (memory_of a.memory) a.evacuators a.fetchers all) (image_at all) c.run_over-in-Ok.result (ap (option_map (λ s. s.now)) c.in-Some.is)
    c.run_over-in-Ok.ensures.together
