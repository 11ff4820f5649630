use Rattle.std.proofs.Common.{true, false, None, sym, ap, refl}
use Rattle.std.specs.Prelude.{option_map}
use Rattle.world_actors.specs.Acting.{eviction_in}
use Rattle.world_actors.specs.Seats.{eviction_of}
use Rattle.world_actors.proofs.Acting.{plain}
use Rattle.world_actors.proofs.Evacuating.{idle_fits, idle_leaves, idle_marks, leave_inside, mark_inside}
use Rattle.world_actors.proofs.evacuator.EvacuatorActor.seek.Goals as goal

pub returns-in-Look-clause-goes : goal.returns-in-Look-clause-goes
returns-in-Look-clause-goes g c = rw c.in-Look.is (λ z s inside is. (plain, refl, ((s, None), refl, (is.shows, sym (ap (option_map (λ e. eviction_of e c.args.self.now.words.items)) c.requires)))))

pub returns-then-mark-clause-goes : goal.returns-then-mark-clause-goes
returns-then-mark-clause-goes g c = rw c.in-Mark.is (λ z s inside is.
    let h : Type 0 = g.S.RawStore.honest in
    let old = c.args.lock.now in
    let x = c.args.self.now in
    idle_marks g.S.RawStore.content h z old.memory old.berths x s is c.in-Mark.object c.in-Mark.frame c.mark.new.lock.memory c.mark.new.lock.berths true _ c.requires
    (c.if-mark.ensures.marks z s (mark_inside z c.in-Mark.object c.in-Mark.frame inside) (idle_fits g.S.RawStore.content h z old.memory old.berths x s is c.requires).1 is.shows) refl)

pub returns-else-mark-clause-goes : goal.returns-else-mark-clause-goes
returns-else-mark-clause-goes g c = rw c.in-Mark.is (λ z s inside is.
    let h : Type 0 = g.S.RawStore.honest in
    let old = c.args.lock.now in
    let x = c.args.self.now in
    idle_marks g.S.RawStore.content h z old.memory old.berths x s is c.in-Mark.object c.in-Mark.frame c.mark.new.lock.memory c.mark.new.lock.berths false (eviction_in x) c.requires
    (c.if-mark.ensures.marks z s (mark_inside z c.in-Mark.object c.in-Mark.frame inside) (idle_fits g.S.RawStore.content h z old.memory old.berths x s is c.requires).1 is.shows)
    (sym (ap (option_map (λ e. eviction_of e x.words.items)) c.requires)))

pub returns-then-leave-clause-goes : goal.returns-then-leave-clause-goes
returns-then-leave-clause-goes g c = rw c.in-Leave.is (λ z s inside is.
    let h : Type 0 = g.S.RawStore.honest in
    let old = c.args.lock.now in
    let x = c.args.self.now in
    idle_leaves g.S.RawStore.content h z old.memory old.berths x s is c.in-Leave.object c.in-Leave.frame c.leave.new.lock.memory c.leave.new.lock.berths true _ c.requires
    (c.if-leave.ensures.leaves z s (leave_inside z c.in-Leave.object c.in-Leave.frame inside) (idle_fits g.S.RawStore.content h z old.memory old.berths x s is c.requires).2.1 is.shows) refl)

pub returns-else-leave-clause-goes : goal.returns-else-leave-clause-goes
returns-else-leave-clause-goes g c = rw c.in-Leave.is (λ z s inside is.
    let h : Type 0 = g.S.RawStore.honest in
    let old = c.args.lock.now in
    let x = c.args.self.now in
    idle_leaves g.S.RawStore.content h z old.memory old.berths x s is c.in-Leave.object c.in-Leave.frame c.leave.new.lock.memory c.leave.new.lock.berths false (eviction_in x) c.requires
    (c.if-leave.ensures.leaves z s (leave_inside z c.in-Leave.object c.in-Leave.frame inside) (idle_fits g.S.RawStore.content h z old.memory old.berths x s is c.requires).2.1 is.shows)
    (sym (ap (option_map (λ e. eviction_of e x.words.items)) c.requires)))
