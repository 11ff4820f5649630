use Rattle.std.proofs.Common.{◌+◌, length}
use Rattle.std.proofs.lemmas.Result.{IfErr-weaker}
use Rattle.object_lock.specs.Fresh.{sizes_of}
use Rattle.object_lock.specs.Kept.{slot_has, slot_keeps}
use Rattle.region.specs.Admission.{image_at}
use Rattle.world_semantics.specs.Pieces.{piece_of}
use Rattle.c0far.proofs.Ran.{fault_less}
use Rattle.c0far.proofs.Together.{ran_as_one}
use Rattle.c0far.proofs.runs.run_with.Goals as goal

pub returns-clause-refused : goal.returns-clause-refused
returns-clause-refused g c = IfErr-weaker c.run_all_counted.result _ _ (λ fault told. fault_less _ _ _ _ _ _ _ fault told) c.run_all_counted.ensures.refused

pub returns-clause-together : goal.returns-clause-together
returns-clause-together g c =
    let a = c.args.asked in
    let all = c.args.programs.items in
    let n = piece_of (image_at all) in
    ran_as_one (slot_keeps g.M.S.RawStore.fits g.M.S.RawStore.content n) (slot_has g.M.S.RawStore.fits n) g.M.S.RawStore.honest g.M.S.RawStore.reliable
    (sizes_of a.memory.objects a.memory.frames n (length all + a.evacuators + a.fetchers)) all a.evacuators a.fetchers (c.runs_are_seats.ensures n) (c.seats_are_a_world.ensures n) c.run_all_counted.result c.run_all_counted.ensures.ends
    c.run_all_counted.ensures.together
