use Rattle.std.proofs.Common.{Some, None, sym, length, ap, ◌∙◌}
use Rattle.world_actors.specs.Acting.{Shows, outcome_of}
use Rattle.world_actors.specs.Seats.{eviction_of}
use Rattle.world_actors.proofs.Evacuating.{moves}
use Rattle.world_actors.proofs.MovedOut.{leads_on}
use Rattle.std.proofs.lemmas.List.{with_items_is}
use Rattle.world_actors.proofs.evacuator.EvacuatorActor.go_on.Goals as goal

pub returns-clause-leads : goal.returns-clause-leads
returns-clause-leads g c z s is =
    let h : Type 0 = g.S.RawStore.honest in
    let old = c.args.lock.now in
    let x = c.args.self.now in
    let now = c.evict.new.lock in
    let led = rw c.deref_mut.ensures.value at (c.evict.ensures z s) in
    let back = with_items_is x.words c.evict.new.words (c.evict.auto.words ∙ (ap length c.deref_mut.ensures.value ∙ sym x.words.ok.0)) in
    rw back (leads_on z.cells x.mover s (eviction_of c.args.eviction x.words.items) _ Some None None (Shows g.S.RawStore.content z now.memory now.berths) (outcome_of c.evict.result c.evict.new.words) _
    (sym (c.eviction-self.ensures c.evict.new.words)) (led is.wide (moves g.S.RawStore.content h z old.memory old.berths x s is c.args.eviction c.requires)))
