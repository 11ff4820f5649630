use Rattle.std.proofs.Common.{◌<◌, subst, arith}
use Rattle.world_memory.specs.declared.memory.Object.{Object}
use Rattle.world_memory.specs.Tables.{object_at}
use Rattle.world_actors.proofs.Instructed.{cleared}
use Rattle.world_actors.proofs.program.ProgramActor.begin_write.Goals as goal

pub returns-else-object-eq0 : goal.returns-else-object-eq0
returns-else-object-eq0 g c z s p is =
    let old = c.args.lock.now in
    let some : 0 < (object_at old.memory c.args.object).count = subst (λ (y : Object). 0 < y.count) c.object.ensures (omega (arith, c.if-object-eq0.false)) in
    cleared g.S.RawStore.content g.S.RawStore.honest z old.memory old.berths c.args.self.now s p is c.args.scope c.args.object c.clear.new.self c.set_hold.new.self some (c.clear.ensures z s) c.set_hold.ensures
