use Rattle.std.proofs.Common.{ap, arith, ℕ, subst}
use Rattle.object_lock.specs.Plays.{Found}
use Rattle.object_moves.proofs.Taking.{taken_or}
use Rattle.object_moves.proofs.Visiting.{comes_here}
use Rattle.object_moves.specs.Ways.{did_of}
use Rattle.object_lock.specs.Seats.{note}
use Rattle.object_moves.proofs.bring.take.Goals as goal

pub returns-in-Away-clause-told : goal.returns-in-Away-clause-told
returns-in-Away-clause-told g c =
    taken_or g.S.RawStore.reliable c.args.obj c.args.owner.now c.open.new.owner c.fetch_or_close.new.owner c.fetch_or_close.result c.in-Away.ensures.told.0 c.in-Away.ensures.told.1 (omega arith) c.fetch_or_close.ensures.told

pub returns-in-Coming-clause-told : goal.returns-in-Coming-clause-told
returns-in-Coming-clause-told g c =
    taken_or g.S.RawStore.reliable c.args.obj c.args.owner.now c.open.new.owner c.fetch_or_close-in-Coming.new.owner c.fetch_or_close-in-Coming.result c.in-Coming.ensures.told.0 c.in-Coming.ensures.told.1 (omega arith) c.fetch_or_close-in-Coming.ensures.told

pub returns-in-Here-clause-way : goal.returns-in-Here-clause-way
returns-in-Here-clause-way g c =
    let z = c.args.table.now.sizes in let s = c.args.owner.now in let t = c.open.new.owner in let o : ℕ = c.args.obj in
    let l = c.in-Here.ensures.logged in
    comes_here z s.view.number o (note s.view o).count c.in-Here.frame l.0 l.2.0 (did_of s) (did_of t)
    (ap (λ x. x.view.hand.past) c.in-Here.ensures.told.2) l.1 (subst (λ y. Found y l.2.0 l.0) c.requires.table.1 l.2.1) l.2.2.0 l.2.2.1
