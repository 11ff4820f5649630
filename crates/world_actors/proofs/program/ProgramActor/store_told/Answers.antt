use Rattle.std.proofs.Common.{◌<◌, subst, ap, sym, ◌∙◌}
use Rattle.world_memory.specs.declared.memory.Object.{Object}
use Rattle.world_actors.proofs.Instructed.{stored}
use Rattle.world_actors.proofs.program.ProgramActor.store_told.Goals as goal

pub returns-then-row : goal.returns-then-row
returns-then-row g c z s p is =
    let old = c.args.lock.now in
    stored g.S.RawStore.content g.S.RawStore.honest z old.memory old.berths c.args.self.now s p is c.args.object c.args.index c.in-Some.frame c.args.value c.put_cell.new.self c.finish.new.self
    (ap (λ (y : Object). y.told) (sym c.object-row.ensures) ∙ c.in-Some.is) (ap (λ (y : Object). y.writing) (sym c.object-row.ensures) ∙ c.if-row.true) (λ shown inside. c.put_cell.ensures z s shown inside (subst (λ n. c.args.index < n) is.size c.requires.index)) c.finish.ensures
