use Rattle.std.proofs.Common.{ap, sym, ◌∙◌}
use Rattle.world_memory.specs.declared.memory.Object.{Object}
use Rattle.world_memory.specs.Tables.{is_marked_by}
use Rattle.world_actors.proofs.MovedOut.{committed, not_committed}
use Rattle.world_actors.proofs.evict.commit.Goals as goal

pub returns-then-is_marked : goal.returns-then-is_marked
returns-then-is_marked g c words z s is =
    let lock = c.args.lock.now in
    committed g.S.RawStore.content g.S.RawStore.honest z lock.memory lock.berths c.args.mover s c.args.object c.args.frame c.put_place.new.self is
    (ap (λ (x : Object). is_marked_by x c.args.frame c.args.mover) (sym c.object.ensures) ∙ (sym c.is_marked.ensures ∙ c.if-is_marked.true)) (c.put_place.ensures z s)

pub returns-else-is_marked : goal.returns-else-is_marked
returns-else-is_marked g c words z s is =
    let lock = c.args.lock.now in
    not_committed g.S.RawStore.content g.S.RawStore.honest z lock.memory lock.berths c.args.mover s c.args.object c.args.frame is
    (ap (λ (x : Object). is_marked_by x c.args.frame c.args.mover) (sym c.object.ensures) ∙ (sym c.is_marked.ensures ∙ c.if-is_marked.false))
