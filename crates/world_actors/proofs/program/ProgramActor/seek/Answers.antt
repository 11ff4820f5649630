use Rattle.std.proofs.Common.{refl}
use Rattle.world_semantics.specs.Turns.{Alone}
use Rattle.world_actors.proofs.BroughtIn.{alone_to}
use Rattle.world_actors.proofs.Evacuating.{frame_inside, leave_inside, mark_inside}
use Rattle.world_actors.proofs.program.ProgramActor.seek.Goals as goal

pub returns-in-Look : goal.returns-in-Look
returns-in-Look g c = rw c.in-Look.is (λ z s p inside is. let old = c.args.lock.now in
    alone_to g.S.RawStore.content g.S.RawStore.honest z old.memory old.berths c.args.self.now s p is (λ _. Alone p) c.args.self.now p refl is.program refl)

pub returns-in-Claim : goal.returns-in-Claim
returns-in-Claim g c = rw c.in-Claim.is (λ z s p inside is. c.claim.ensures z s p (frame_inside z c.in-Claim.frame inside) is)

pub returns-in-Mark : goal.returns-in-Mark
returns-in-Mark g c = rw c.in-Mark.is (λ z s p inside is. c.mark_other.ensures z s p (mark_inside z c.in-Mark.other c.in-Mark.frame inside) is)

pub returns-in-Leave : goal.returns-in-Leave
returns-in-Leave g c = rw c.in-Leave.is (λ z s p inside is. c.leave_other.ensures z s p (leave_inside z c.in-Leave.other c.in-Leave.frame inside) is)
