use Rattle.std.proofs.Common.{◌<◌, ap, subst, ◌∙◌}
use Rattle.pointer_word.specs.Words.{framed}
use Rattle.world_memory.specs.declared.memory.Object.{Object}
use Rattle.world_memory.specs.Tables.{object_at, place_of}
use Rattle.world_actors.proofs.Instructed.{opens}
use Rattle.world_actors.proofs.program.ProgramActor.open_hold.Goals as goal

pub returns-then-row-lt4 : goal.returns-then-row-lt4
returns-then-row-lt4 g c z s p is =
    let old = c.args.lock.now in
    let few : (object_at old.memory c.args.object).count < 4 = subst (λ (y : Object). y.count < 4) c.object-row.ensures c.if-row-lt4.true in
    opens g.S.RawStore.content g.S.RawStore.honest z old.memory old.berths c.args.self.now s p is c.args.scope c.args.object c.frame.result c.open.new.self c.set_hold.new.self c.find.new.self c.requires.own few
    (c.open.ensures z s) c.set_hold.ensures (c.frame.ensures ∙ ap (λ (y : Object). framed (place_of y.place)) c.object-row.ensures) c.find.ensures.found c.find.ensures.setting
