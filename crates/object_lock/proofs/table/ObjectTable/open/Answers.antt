use Rattle.std.proofs.Common.{◌≡◌, ℕ, sym, ap, subst, refl}
use Rattle.pointer_word.specs.Words.{counted}
use Rattle.pointer_word.specs.Calls.{Opens}
use Rattle.object_lock.specs.Seats.{note}
use Rattle.object_lock.specs.Logs.{Seated, Adds}
use Rattle.object_lock.specs.Plays.{Found, FoundWord}
use Rattle.object_lock.specs.SeatViews.{SeatView}
use Rattle.object_lock.specs.Telling.{held}
use Rattle.object_lock.proofs.table.ObjectTable.open.Goals as goal

pub returns-clause-logged : goal.returns-clause-logged
returns-clause-logged g c =
    let w = c.open_word in let o : ℕ = c.args.obj in let v = c.owner.inside.seat.me.0.view in let p = w.ensures.exactly in let l = w.ensures.logged in
    let e : v ≡ c.args.owner.now.view = ap (λ (h : SeatView g.row.S.Denot g.row.S-Cell.Denot). h.view) c.owner.view_is in
    let k : c.owner.inside.seat.me.0.log ≡ c.args.owner.now.log = ap (λ (h : SeatView g.row.S.Denot g.row.S-Cell.Denot). h.log) c.owner.view_is in
    subst (λ (q : Seated). Adds q.log w.new.seat.me.0.log o (Opens o) (FoundWord q.view.sizes (λ x. (x.count ≡ (note q.view o).count) × (c.held_of.result ≡ held x.place)))) (λ i. record { view = e i; log = k i })
    (l.0, l.1, (counted (note v o).count p.0, subst (Found v.sizes (counted (note v o).count p.0)) (sym l.2) p.1, (refl, c.held_of.ensures (counted (note v o).count p.0) p.1.1.0 p.1.0)))
