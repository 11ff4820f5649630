use Rattle.std.proofs.Common.{◌<◌, subst, arith}
use Rattle.world_memory.specs.declared.memory.Object.{Object}
use Rattle.world_memory.specs.Tables.{object_at}
use Rattle.world_actors.proofs.Instructed.{gives_none, gives_one}
use Rattle.world_actors.proofs.program.ProgramActor.give_up.Goals as goal

pub returns-in-None : goal.returns-in-None
returns-in-None g c z s p is =
    let old = c.args.lock.now in
    gives_none g.S.RawStore.content g.S.RawStore.honest z old.memory old.berths c.args.self.now s p is c.set_mode.new.self c.in-None.ensures c.set_mode.ensures

pub returns-else-object-eq0 : goal.returns-else-object-eq0
returns-else-object-eq0 g c z s p is =
    let old = c.args.lock.now in
    let d = c.in-Some.hold in
    let some : 0 < (object_at old.memory d.object).count = subst (λ (y : Object). 0 < y.count) c.object.ensures (omega (arith, c.if-object-eq0.false)) in
    gives_one g.S.RawStore.content g.S.RawStore.honest z old.memory old.berths c.args.self.now s p is c.in-Some.scope d c.close.new.self c.set_hold.new.self c.want_closed.new.self c.in-Some.ensures some (c.close.ensures z s)
    c.set_hold.ensures c.want_closed.ensures.closed c.want_closed.ensures.setting
