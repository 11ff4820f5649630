use Rattle.std.proofs.Common.{◌≡◌, ◌<◌, ap, refl, sym, subst, ◌∙◌, arith}
use Rattle.world_memory.specs.declared.memory.Object.{Object}
use Rattle.world_semantics.specs.Programs.{finished}
use Rattle.world_memory.specs.Tables.{object_at}
use Rattle.world_actors.proofs.BroughtIn.{arrives_not, arrives_there}
use Rattle.world_actors.proofs.program.ProgramActor.arrive.Goals as goal

pub returns-then-object-eq0 : goal.returns-then-object-eq0
returns-then-object-eq0 g c words k mode full z s p is =
    let old = c.args.lock.now in
    let none : (object_at old.memory c.args.object).count ≡ 0 = ap (λ (y : Object). y.count) (sym c.object.ensures) ∙ c.if-object-eq0.true in
    (arrives_not g.S.RawStore.content g.S.RawStore.honest z old.memory old.berths c.args.self.now s p is c.args.object c.args.frame (finished c.args.self.now.setting p 0) none, (refl, refl))

pub returns-else-object-eq0 : goal.returns-else-object-eq0
returns-else-object-eq0 g c words k mode full z s p is =
    let old = c.args.lock.now in
    let some : 0 < (object_at old.memory c.args.object).count = subst (λ (y : Object). 0 < y.count) c.object.ensures (omega (arith, c.if-object-eq0.false)) in
    arrives_there g.S.RawStore.content g.S.RawStore.honest z old.memory old.berths c.args.self.now s p is c.args.object c.args.frame k words c.put_place.new.self c.tell.new.self c.finish.new.self mode full some
    (c.put_place.ensures z s) (c.tell.ensures z) c.finish.ensures
