use Rattle.std.proofs.Common.{rules, sym, ap, ◌∙◌}
use Rattle.std.specs.Prelude.{Option}
use mathlib.Core.Path.{Path}
use Rattle.atomic_table.specs.Table.{Me}
use Rattle.pointer_word.specs.Hands.{marking}
use Rattle.remote_store.specs.declared.berth.Berth.{Berth}
use Rattle.object_lock.specs.Seats.{View, with_hand}
use Rattle.object_lock.specs.Joining.{Joined}
use Rattle.object_lock.specs.SeatViews.{SeatView}
use Rattle.object_lock.proofs.Answered.{berth_there, first_slot}
use Rattle.object_lock.proofs.table.ObjectTable.try_mark.Goals as goal

pub returns-then-found-plain-clause-told : goal.returns-then-found-plain-clause-told
returns-then-found-plain-clause-told g c =
    let w = c.mark_word-found in let t = w.ensures.taken (search rules) in let x = c.exchange.ensures in let v = c.mover.view_is in
    let slots = ap (λ (m : Me (Option (Berth g.row.S-Cell.Denot)) View). m.1) t.2 in
    let got : Path (Option (Berth g.row.S-Cell.Denot)) c.exchange.result t.0 = first_slot (c.args.obj, c.exchange.result) (c.args.obj, t.0) _ _ (sym x.2 ∙ slots) in
    let b = berth_there g.S.RawStore.fits c.mover.inside.seat.me.0.view.sizes.cells t.0 c.exchange.result t.1 got in (
      b.0,
      λ i. record {
        table = (x.0 ∙ (w.ensures.seat.0 ∙ ap (λ (h : SeatView g.row.S.Denot g.row.S-Cell.Denot). h.table) v)) i;
        id = (x.1 ∙ (w.ensures.seat.1 ∙ ap (λ (h : SeatView g.row.S.Denot g.row.S-Cell.Denot). h.id) v)) i;
        view = (ap (λ (m : Me (Option (Berth g.row.S-Cell.Denot)) Joined). m.0.view) x.3 ∙ (ap (λ (m : Me (Option (Berth g.row.S-Cell.Denot)) View). m.0) t.2 ∙ ap (λ (h : SeatView g.row.S.Denot g.row.S-Cell.Denot). with_hand h.view (marking h.view.hand c.args.obj c.args.frame)) v)) i;
        log = c.exchange.new.seat.me.0.log;
        brought = ap (λ (h : SeatView g.row.S.Denot g.row.S-Cell.Denot). h.brought) v i;
        taken = b.1 i;
        store = ap (λ (h : SeatView g.row.S.Denot g.row.S-Cell.Denot). h.store) v i;
        refusals = ap (λ (h : SeatView g.row.S.Denot g.row.S-Cell.Denot). h.refusals) v i;
      },
    )
