use Rattle.std.proofs.Common.{◌/◌, length}
use Rattle.command_line.specs.Shell.{memory_of}
use Rattle.region.specs.Admission.{image_at}
use Rattle.c0far.proofs.Ran.{ran_less}
use Rattle.c0far.proofs.Together.{one_less}
use Rattle.c0far.specs.Runs.{world_over}
use Rattle.c0far.proofs.runs.run_over.Goals as goal

pub returns-then-asked-eq0-clause-ended : goal.returns-then-asked-eq0-clause-ended
returns-then-asked-eq0-clause-ended g c = ran_less _ _ _ (c.args.asked.memory.objects / length c.args.programs.items) c.args.programs.items c.run_with.result (λ sure. sure.0) c.run_with.ensures.ended

pub returns-in-Ok-clause-ended : goal.returns-in-Ok-clause-ended
returns-in-Ok-clause-ended g c =
    ran_less _ _ _ (c.args.asked.memory.objects / length c.args.programs.items) c.args.programs.items c.run_with-in-Ok.result (λ sure. absurd (c.if-asked-eq0.false sure.1)) c.run_with-in-Ok.ensures.ended

pub returns-then-asked-eq0-clause-together : goal.returns-then-asked-eq0-clause-together
returns-then-asked-eq0-clause-together g c =
    let a = c.args.asked in
    let all = c.args.programs.items in
    one_less _ _ _ _ (world_over (memory_of a.memory) a.evacuators a.fetchers all) (image_at all) c.run_with.result (λ honest. honest) (λ honest sure. sure.0) c.run_with.ensures.together

pub returns-in-Ok-clause-together : goal.returns-in-Ok-clause-together
returns-in-Ok-clause-together g c =
    let a = c.args.asked in
    let all = c.args.programs.items in
    one_less _ _ _ _ (world_over (memory_of a.memory) a.evacuators a.fetchers all) (image_at all) c.run_with-in-Ok.result (λ honest. honest) (λ honest sure. absurd (c.if-asked-eq0.false sure.1)) c.run_with-in-Ok.ensures.together
