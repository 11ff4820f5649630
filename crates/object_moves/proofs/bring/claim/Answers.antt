use Rattle.std.proofs.Common.{◌≡◌, ap, rules, subst}
use Rattle.object_moves.specs.Ways.{LacksRoom, MakesRoom, MakesRoomAt, did_of}
use Rattle.object_moves.proofs.Visiting.{claims_behind, lacks_behind, room_both}
use Rattle.object_moves.proofs.bring.claim.Goals as goal

pub returns-in-Ok-Some-clause-visits : goal.returns-in-Ok-Some-clause-visits
returns-in-Ok-Some-clause-visits g c =
    let z = c.args.table.now.sizes in let s = c.args.owner.now in let t = c.loop.owner in let u = c.claim_once.new.owner in let o = c.args.obj in let f = c.in-Ok-Some.frame in
    let number : t.view.number ≡ s.view.number = ap (λ x. x.view.number) c.loop.invariant.3 in
    claims_behind z s.view.number o f (did_of s) (did_of t) (did_of u) c.loop.invariant.6 (subst (λ m. MakesRoomAt z m o f (did_of t) (did_of u)) number (rw c.in-Ok-Some.field-0-is at c.in-Ok-Some.ensures.visits))

pub returns-in-Err-clause-visits : goal.returns-in-Err-clause-visits
returns-in-Err-clause-visits g c =
    let z = c.args.table.now.sizes in let s = c.args.owner.now in let t = c.loop.owner in let u = c.claim_once.new.owner in
    let number : t.view.number ≡ s.view.number = ap (λ x. x.view.number) c.loop.invariant.3 in
    lacks_behind z s.view.number (did_of s) (did_of t) (did_of u) c.loop.invariant.6 (subst (λ m. LacksRoom z m (did_of t) (did_of u)) number c.in-Err.ensures.visits)

pub loop-preserved : goal.loop-preserved
loop-preserved g c =
    let z = c.args.table.now.sizes in let s = c.args.owner.now in let t = c.loop.owner in let u = c.claim_once.new.owner in
    let number : t.view.number ≡ s.view.number = ap (λ x. x.view.number) c.loop.invariant.3 in (
      tt,
      tt,
      c.claim_once.ensures.table,
      search rules,
      search rules,
      search rules,
      room_both z s.view.number (did_of s) (did_of t) (did_of u) c.loop.invariant.6 (subst (λ m. MakesRoom z m (did_of t) (did_of u)) number (rw c.in-Ok-None.field-0-is at c.in-Ok-None.ensures.visits)),
    )
