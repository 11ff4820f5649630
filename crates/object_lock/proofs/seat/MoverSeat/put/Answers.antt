use Rattle.std.proofs.Common.{◌≡◌, ◌+◌, ap, subst, ◌∙◌}
use Rattle.object_lock.specs.Seats.{View}
use Rattle.object_lock.specs.SeatViews.{SeatView}
use Rattle.object_lock.proofs.Answered.{matched, put_in}
use Rattle.object_lock.proofs.seat.MoverSeat.put.Goals as goal

pub returns-clause-put : goal.returns-clause-put
returns-clause-put g c =
    let e : c.self.inside.seat.me.0.view ≡ c.args.self.now.view = ap (λ (h : SeatView g.row.S.Denot g.row.S-Cell.Denot). h.view) c.self.view_is in
    let fits : g.S.RawStore.fits c.in-Some.berth.cell (c.self.inside.seat.me.0.view.sizes.cells + 3) = matched g.S.RawStore.fits _ c.args.obj _ c.self.inside.taken c.in-Some.berth (ap (λ (v : View). v.hand.leaving) e ∙ c.requires.leaves) c.in-Some.is c.self.invariant.6 in
    let here = subst (λ (v : View). g.S.RawStore.fits c.in-Some.berth.cell (v.sizes.cells + 3)) e fits in
    put_in g.S.RawStore.fits g.S.RawStore.content _ c.put.new.self c.args.obj c.args.words.now c.put.result c.requires.words.0 (c.put.ensures.fits _ here) c.put.ensures.put
