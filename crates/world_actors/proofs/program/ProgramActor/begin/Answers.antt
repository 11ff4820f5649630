use Rattle.std.proofs.Common.{◌≡◌, ◌<◌, ap, sym, subst, ◌∙◌, arith}
use Rattle.world_memory.specs.declared.memory.Object.{Object}
use Rattle.pointer_word.specs.Words.{framed}
use Rattle.world_memory.specs.Tables.{is_away_at, object_at, place_of}
use Rattle.world_actors.proofs.BroughtIn.{begins_away, begins_elsewhere}
use Rattle.world_actors.proofs.program.ProgramActor.begin.Goals as goal

pub returns-then-is_away : goal.returns-then-is_away
returns-then-is_away g c z s p is =
    let h : Type 0 = g.S.RawStore.honest in
    let old = c.args.lock.now in
    let o = c.args.object in
    let row : c.object-row.result ≡ object_at old.memory o = c.object-row.ensures in
    let some : 0 < (object_at old.memory o).count = subst (λ (y : Object). 0 < y.count) row (omega (arith, c.if-row-eq0.false)) in
    begins_away g.S.RawStore.content h z old.memory old.berths c.args.self.now s p is o c.put_place.new.self c.set_mode.new.self c.requires.mode some
    (ap (λ (y : Object). is_away_at y.place) (sym row) ∙ (sym c.is_away.ensures ∙ c.if-is_away.true)) (rw (← c.mover-mover.ensures) (c.put_place.ensures z s)) c.set_mode.ensures

pub returns-else-is_away : goal.returns-else-is_away
returns-else-is_away g c z s p is =
    let h : Type 0 = g.S.RawStore.honest in
    let old = c.args.lock.now in
    let o = c.args.object in
    let row : c.object-row.result ≡ object_at old.memory o = c.object-row.ensures in
    let some : 0 < (object_at old.memory o).count = subst (λ (y : Object). 0 < y.count) row (omega (arith, c.if-row-eq0.false)) in
    begins_elsewhere g.S.RawStore.content h z old.memory old.berths c.args.self.now s p is o c.frame.result c.tell.new.self c.find.new.self c.requires.mode some
    (ap (λ (y : Object). is_away_at y.place) (sym row) ∙ (sym c.is_away.ensures ∙ c.if-is_away.false)) (c.tell.ensures z s) (c.frame.ensures ∙ ap (λ (y : Object). framed (place_of y.place)) row) (c.find.ensures.found p) c.find.ensures.setting
