use Rattle.region.specs.Admission.{image_at}
use Rattle.streams.specs.Streams.{writes}
use Rattle.program_run.specs.Acting.{share_by}
use Rattle.c0far.proofs.Lived.{lived_fewer, lived_less}
use Rattle.c0far.proofs.lives.live_over.Goals as goal

pub returns-then-asked-eq0-clause-ended : goal.returns-then-asked-eq0-clause-ended
returns-then-asked-eq0-clause-ended g c =
    lived_less _ _ _ c.args.asked.memory.objects (image_at c.args.programs.items 0) (writes g.O.Stream.contents g.O.Stream.failures c.args.out.now c.live_with.new.out) c.live_with.result (λ sure. sure.0) c.live_with.ensures.ended

pub returns-in-Ok-clause-ended : goal.returns-in-Ok-clause-ended
returns-in-Ok-clause-ended g c =
    lived_less _ _ _ c.args.asked.memory.objects (image_at c.args.programs.items 0) (writes g.O.Stream.contents g.O.Stream.failures c.args.out.now c.live_with-in-Ok.new.out) c.live_with-in-Ok.result
    (λ sure. absurd (c.if-asked-eq0.false sure.1)) c.live_with-in-Ok.ensures.ended

pub returns-then-asked-eq0-clause-finished : goal.returns-then-asked-eq0-clause-finished
returns-then-asked-eq0-clause-finished g c = lived_fewer _ _ _ (share_by 0 c.args.asked.memory.objects) (image_at c.args.programs.items 0) c.live_with.result (λ sure. sure.0) c.live_with.ensures.finished

pub returns-in-Ok-clause-finished : goal.returns-in-Ok-clause-finished
returns-in-Ok-clause-finished g c = lived_fewer _ _ _ (share_by 0 c.args.asked.memory.objects) (image_at c.args.programs.items 0) c.live_with-in-Ok.result (λ sure. absurd (c.if-asked-eq0.false sure.1)) c.live_with-in-Ok.ensures.finished
