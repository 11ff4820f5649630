use Rattle.std.proofs.Common.{◌<◌, ap, subst}
use Rattle.object_moves.proofs.Visiting.{room_clean}
use Rattle.object_moves.proofs.room.make_room_among.Goals as goal

pub returns-in-Some-clause-visits : goal.returns-in-Some-clause-visits
returns-in-Some-clause-visits g c =
    let s = c.args.owner.now in let t = c.leave_one.new.owner in let l = c.in-Some.ensures.logged in
    room_clean c.args.table.now.sizes s.view.number s.view.hand s.log t.log t.view.hand.past l.0 c.in-Some.frame (ap (λ x. x.view.hand.past) c.in-Some.ensures.told.1) l.1 (subst (λ y. c.in-Some.frame < y.frames) c.requires.table.1 c.in-Some.ensures.told.0) l.2
