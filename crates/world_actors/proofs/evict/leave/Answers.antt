use Rattle.std.proofs.Common.{ap, sym, ◌∙◌}
use Rattle.world_memory.specs.declared.memory.Object.{Object}
use Rattle.world_memory.specs.Tables.{is_clean_in}
use Rattle.world_actors.proofs.MovedOut.{left}
use Rattle.world_actors.proofs.evict.leave.Goals as goal

pub returns-then-is_clean-clause-leaves : goal.returns-then-is_clean-clause-leaves
returns-then-is_clean-clause-leaves g c z s inside none shows =
    let old = c.args.lock.now in
    left g.S.RawStore.content z old.memory old.berths c.args.mover s shows c.args.object c.args.frame c.put_place.new.self inside
    (ap (λ (x : Object). is_clean_in x c.args.frame) (sym c.object.ensures) ∙ (sym c.is_clean.ensures ∙ c.if-is_clean.true)) (c.put_place.ensures z s)
