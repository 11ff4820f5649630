use Rattle.std.proofs.Common.{ap, sym, ◌∙◌}
use Rattle.world_memory.specs.declared.memory.Object.{Object}
use Rattle.world_actors.proofs.Instructed.{loaded}
use Rattle.world_actors.proofs.program.ProgramActor.load_told.Goals as goal

pub returns-in-Some : goal.returns-in-Some
returns-in-Some g c z s p is =
    let old = c.args.lock.now in
    loaded g.S.RawStore.content g.S.RawStore.honest z old.memory old.berths c.args.self.now s p is c.args.object c.args.index c.in-Some.frame c.cell-value.result c.finish.new.self
    (ap (λ (y : Object). y.told) (sym c.object.ensures) ∙ c.in-Some.is) c.cell-value.ensures c.finish.ensures
