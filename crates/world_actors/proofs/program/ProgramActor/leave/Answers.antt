use Rattle.std.proofs.Common.{◌<◌, subst, arith}
use Rattle.world_memory.specs.declared.memory.Object.{Object}
use Rattle.world_semantics.specs.Programs.{hold_at}
use Rattle.world_memory.specs.Tables.{object_at}
use Rattle.world_actors.proofs.Instructed.{goes_turn, leaves_none, left}
use Rattle.world_actors.proofs.program.ProgramActor.leave.Goals as goal

pub returns-in-None : goal.returns-in-None
returns-in-None g c z s p is =
    let x = c.args.self.now in
    goes_turn z.cells s _ _ _ _ _ c.complete.result (λ a. leaves_none x.setting p c.args.scope (hold_at x.holds c.args.scope) c.in-None.ensures) (c.complete.ensures z s p is)

pub returns-else-object-eq0 : goal.returns-else-object-eq0
returns-else-object-eq0 g c z s p is =
    let old = c.args.lock.now in
    let x = c.args.self.now in
    let d = c.in-Some.hold in
    let some : 0 < (object_at old.memory d.object).count = subst (λ (y : Object). 0 < y.count) c.object.ensures (omega (arith, c.if-object-eq0.false)) in
    left g.S.RawStore.content g.S.RawStore.honest z old.memory old.berths x s p is c.args.scope (hold_at x.holds c.args.scope) d c.close.new.self c.set_hold.new.self c.finish.new.self c.in-Some.ensures some
    (c.close.ensures z s) c.set_hold.ensures c.finish.ensures
