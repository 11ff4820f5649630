use Rattle.std.proofs.Common.{◌≡◌, true, false, ap, subst, sym}
use Rattle.pointer_word.specs.Calls.{Retreats}
use Rattle.object_lock.specs.Logs.{AddsOne}
use Rattle.object_lock.specs.Plays.{Holds}
use Rattle.object_moves.specs.Deeds.{BringsLogged}
use Rattle.object_moves.specs.Ways.{did_of}
use Rattle.object_moves.proofs.Visiting.{arrives_so, not_read, not_written}
use Rattle.object_moves.proofs.bring.bring.Goals as goal

pub returns-in_default-clause-course : goal.returns-in_default-clause-course
returns-in_default-clause-course g c =
    let s = c.args.owner.now in let t = c.claim.new.owner in let u = c.retreat.new.mover in let o = c.args.obj in
    let number : t.view.number ≡ s.view.number = ap (λ x. x.view.number) c.in_default.ensures.told.0 in
    not_written c.args.table.now.sizes s.view.number o (did_of s) (did_of t) (did_of u) c.in_default.ensures.visits (ap (λ x. x.view.hand.past) c.retreat.ensures.retreated)
    (subst (λ m. AddsOne t.log u.log o (Retreats m o)) number c.retreat.ensures.logged)

pub returns-then-bring_into-clause-course : goal.returns-then-bring_into-clause-course
returns-then-bring_into-clause-course g c =
    let z = c.args.table.now.sizes in let s = c.args.owner.now in let t = c.claim.new.owner in let u = c.bring_into.new.mover in let o = c.args.obj in let f = c.in-Ok.frame in
    let holds : Holds t.view o = subst (λ x. Holds x.view o) (sym c.in-Ok.ensures.told.hand) c.requires.hold in
    let number : t.view.number ≡ s.view.number = ap (λ x. x.view.number) c.in-Ok.ensures.told.hand in
    arrives_so g.S.RawStore.honest z s.view.number o f t.view.hand.promised (did_of s) (did_of t) (did_of u) c.in-Ok.ensures.visits (ap (λ x. x.view.hand.past) (c.if-bring_into.ensures.told.0.0 holds))
    (subst (λ m. BringsLogged g.S.RawStore.honest z m o f true t.view.hand.promised true t.log u.log) number (c.if-bring_into.ensures.held_log holds))

pub returns-else-bring_into-clause-course : goal.returns-else-bring_into-clause-course
returns-else-bring_into-clause-course g c =
    let z = c.args.table.now.sizes in let s = c.args.owner.now in let t = c.claim.new.owner in let u = c.bring_into.new.mover in let o = c.args.obj in let f = c.in-Ok.frame in
    let holds : Holds t.view o = subst (λ x. Holds x.view o) (sym c.in-Ok.ensures.told.hand) c.requires.hold in
    let number : t.view.number ≡ s.view.number = ap (λ x. x.view.number) c.in-Ok.ensures.told.hand in
    not_read g.S.RawStore.honest z s.view.number o f t.view.hand.promised (did_of s) (did_of t) (did_of u) c.in-Ok.ensures.visits (ap (λ x. x.view.hand.past) c.if-bring_into.ensures.told.0)
    (subst (λ m. BringsLogged g.S.RawStore.honest z m o f true t.view.hand.promised false t.log u.log) number (c.if-bring_into.ensures.held_log holds))
