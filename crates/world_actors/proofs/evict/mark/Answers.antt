use Rattle.std.proofs.Common.{ap, sym, ◌∙◌}
use Rattle.world_memory.specs.declared.memory.Object.{Object}
use Rattle.world_memory.specs.Tables.{is_at_rest_in}
use Rattle.world_actors.proofs.MovedOut.{marked}
use Rattle.world_actors.proofs.evict.mark.Goals as goal

pub returns-then-is_at_rest-clause-marks : goal.returns-then-is_at_rest-clause-marks
returns-then-is_at_rest-clause-marks g c z s inside none shows =
    let old = c.args.lock.now in
    marked g.S.RawStore.content z old.memory old.berths c.args.mover s shows c.args.object c.args.frame c.put_place.new.self inside
    (ap (λ (x : Object). is_at_rest_in x c.args.frame) (sym c.object.ensures) ∙ (sym c.is_at_rest.ensures ∙ c.if-is_at_rest.true)) (c.put_place.ensures z s)
