use Rattle.std.proofs.Common.{◌≡◌, ap, subst}
use Rattle.std.specs.Prelude.{MatchResult}
use Rattle.object_moves.specs.Ways.{LacksRoom, MakesRoom, did_of}
use Rattle.object_moves.proofs.Visiting.{room_or_lack}
use Rattle.object_moves.proofs.room.make_room.Goals as goal

pub returns-in-Ok-None-clause-visits : goal.returns-in-Ok-None-clause-visits
returns-in-Ok-None-clause-visits g c =
    let z = c.args.table.now.sizes in let s = c.args.owner.now in let t = c.make_room_among.new.owner in let u = c.make_room_among-in-Ok-None.new.owner in let r = c.make_room_among-in-Ok-None.result in
    let same : t.view.number ≡ s.view.number = ap (λ x. x.view.number) c.in-Ok-None.ensures.same in
    room_or_lack r z s.view.number (did_of s) (did_of t) (did_of u) c.in-Ok-None.ensures.visits
    (subst (λ n. MatchResult r (λ _. MakesRoom z n (did_of t) (did_of u)) (λ _. LacksRoom z n (did_of t) (did_of u))) same c.make_room_among-in-Ok-None.ensures.visits)
