use Rattle.std.proofs.Common.{◌<◌, subst, arith}
use Rattle.world_memory.specs.declared.memory.Object.{Object}
use Rattle.world_memory.specs.Tables.{object_at}
use Rattle.world_actors.proofs.Instructed.{closed}
use Rattle.world_actors.proofs.program.ProgramActor.close_hold.Goals as goal

pub returns-else-object-eq0 : goal.returns-else-object-eq0
returns-else-object-eq0 g c z s p is =
    let old = c.args.lock.now in
    let some : 0 < (object_at old.memory c.args.hold.object).count = subst (λ (y : Object). 0 < y.count) c.object.ensures (omega (arith, c.if-object-eq0.false)) in
    closed g.S.RawStore.content g.S.RawStore.honest z old.memory old.berths c.args.self.now s p is c.args.scope c.args.hold c.close.new.self c.set_hold.new.self some (c.close.ensures z s) c.set_hold.ensures
