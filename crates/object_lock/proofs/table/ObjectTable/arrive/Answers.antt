use Rattle.std.proofs.Common.{◌≡◌, sym, ap, ◌∙◌, subst, arith, true, false}
use Rattle.std.specs.Prelude.{Option, Some}
use mathlib.Core.Path.{Path}
use Rattle.atomic_table.specs.Table.{Me}
use Rattle.remote_store.specs.declared.berth.Berth.{Berth}
use Rattle.object_lock.specs.Seats.{View, note}
use Rattle.object_lock.specs.Logs.{Seated, AddsOne}
use Rattle.object_lock.specs.Joining.{Joined, own_view}
use Rattle.pointer_word.specs.Words.{Here}
use Rattle.pointer_word.specs.Calls.{Arrives}
use Rattle.object_lock.specs.Plays.{Steps, Holds, IsUnheld, LeavesWord, LeavesAt}
use Rattle.object_lock.specs.Kept.{slot_keeps}
use Rattle.object_lock.specs.SeatViews.{TableView, SeatView}
use Rattle.object_lock.proofs.Answered.{keeps_promised, put_back, filled_at}
use Rattle.object_lock.proofs.table.ObjectTable.arrive.Goals as goal

pub arrive_word-requires-clause-hands : goal.arrive_word-requires-clause-hands
arrive_word-requires-clause-hands g c κs within =
    let e : c.mover.inside.seat.me.0.view ≡ c.args.mover.now.view = ap (λ (h : SeatView g.row.S.Denot g.row.S-Cell.Denot). h.view) c.mover.view_is in
    let x = c.exchange.ensures.3 in
    let d : c.exchange.new.seat.me.0.view ≡ c.mover.inside.seat.me.0.view = ap (λ (m : Me (Option (Berth g.row.S-Cell.Denot)) Joined). m.0.view) x in
    let bring : c.mover.inside.seat.me.0.view.hand.bringing ≡ Some c.args.obj = ap (λ (v : View). v.hand.bringing) e ∙ c.requires.hands.0 in
    let kept = keeps_promised g.S.RawStore.fits g.S.RawStore.content c.args.obj _ _ _ _ c.mover.inside.seat.me.0.view c.mover.inside.seat.me.1 c.mover.inside.brought c.mover.inside.taken bring c.mover.invariant in
    let got : Path (Option (Berth g.row.S-Cell.Denot)) c.take-berth.result c.mover.inside.brought = c.take-berth.ensures.value in
    let os = ap (λ (t : TableView). t.sizes.objects) c.self.view_is in let near = c.requires.low.0 in (
      omega arith,
      ap (λ (v : View). v.hand.bringing) d ∙ bring,
      ap (λ (v : View). v.hand.claimed) (d ∙ e) ∙ c.requires.hands.1,
      put_back g.S.RawStore.fits g.S.RawStore.content c.args.obj (own_view c.exchange.new.seat.me) c.mover.inside.seat.me.0.view _ c.take-berth.result (ap own_view x) (subst (λ (b : Option (Berth g.row.S-Cell.Denot)). slot_keeps g.S.RawStore.fits g.S.RawStore.content c.mover.inside.seat.me.0.view.sizes.cells b c.args.obj c.mover.inside.seat.me.0.view.hand.promised) (sym got) kept),
    )

pub arrive_word-requires-clause-filled : goal.arrive_word-requires-clause-filled
arrive_word-requires-clause-filled g c κs within =
    let e : c.mover.inside.seat.me.0.view ≡ c.args.mover.now.view = ap (λ (h : SeatView g.row.S.Denot g.row.S-Cell.Denot). h.view) c.mover.view_is in
    let d : c.exchange.new.seat.me.0.view ≡ c.mover.inside.seat.me.0.view = ap (λ (m : Me (Option (Berth g.row.S-Cell.Denot)) Joined). m.0.view) c.exchange.ensures.3 in
    filled_at g.S.RawStore.honest _ _ _ _ (ap (λ (t : TableView). t.sizes.cells) c.self.view_is) (ap (λ (v : View). v.hand) (d ∙ e)) c.requires.filled

pub returns-clause-step : goal.returns-clause-step
returns-clause-step g c =
    let e : c.mover.inside.seat.me.0.view ≡ c.args.mover.now.view = ap (λ (h : SeatView g.row.S.Denot g.row.S-Cell.Denot). h.view) c.mover.view_is in
    let d : c.exchange.new.seat.me.0.view ≡ c.mover.inside.seat.me.0.view = ap (λ (m : Me (Option (Berth g.row.S-Cell.Denot)) Joined). m.0.view) c.exchange.ensures.3 in
    subst (λ (v : View). Holds v c.args.obj → Steps g.S.RawStore.honest (Arrives v.number c.args.obj c.args.frame true) v c.arrive_word.new.seat.me.0.view (LeavesWord (Arrives v.number c.args.obj c.args.frame true) c.args.obj (note v c.args.obj).count (Here c.args.frame true))) (d ∙ e) c.arrive_word.ensures.step

pub returns-clause-unheld_step : goal.returns-clause-unheld_step
returns-clause-unheld_step g c =
    let e : c.mover.inside.seat.me.0.view ≡ c.args.mover.now.view = ap (λ (h : SeatView g.row.S.Denot g.row.S-Cell.Denot). h.view) c.mover.view_is in
    let d : c.exchange.new.seat.me.0.view ≡ c.mover.inside.seat.me.0.view = ap (λ (m : Me (Option (Berth g.row.S-Cell.Denot)) Joined). m.0.view) c.exchange.ensures.3 in
    subst (λ (v : View). IsUnheld v c.args.obj → Steps g.S.RawStore.honest (Arrives v.number c.args.obj c.args.frame false) v c.arrive_word.new.seat.me.0.view (LeavesAt (Arrives v.number c.args.obj c.args.frame false) c.args.obj (Here c.args.frame true))) (d ∙ e) c.arrive_word.ensures.unheld_step

pub returns-clause-held_log : goal.returns-clause-held_log
returns-clause-held_log g c =
    let e : c.mover.inside.seat.me.0.view ≡ c.args.mover.now.view = ap (λ (h : SeatView g.row.S.Denot g.row.S-Cell.Denot). h.view) c.mover.view_is in
    let l : c.mover.inside.seat.me.0.log ≡ c.args.mover.now.log = ap (λ (h : SeatView g.row.S.Denot g.row.S-Cell.Denot). h.log) c.mover.view_is in
    let d : c.exchange.new.seat.me.0 ≡ c.mover.inside.seat.me.0 = ap (λ (m : Me (Option (Berth g.row.S-Cell.Denot)) Joined). m.0) c.exchange.ensures.3 in
    let v : c.exchange.new.seat.me.0.view ≡ c.args.mover.now.view = ap (λ (q : Joined). q.view) d ∙ e in let o : c.exchange.new.seat.me.0.log ≡ c.args.mover.now.log = ap (λ (q : Joined). q.log) d ∙ l in
    subst (λ (q : Seated). Holds q.view c.args.obj → AddsOne q.log c.arrive_word.new.seat.me.0.log c.args.obj (Arrives q.view.number c.args.obj c.args.frame true)) (λ i. record { view = v i; log = o i }) c.arrive_word.ensures.held_log

pub returns-clause-unheld_log : goal.returns-clause-unheld_log
returns-clause-unheld_log g c =
    let e : c.mover.inside.seat.me.0.view ≡ c.args.mover.now.view = ap (λ (h : SeatView g.row.S.Denot g.row.S-Cell.Denot). h.view) c.mover.view_is in
    let l : c.mover.inside.seat.me.0.log ≡ c.args.mover.now.log = ap (λ (h : SeatView g.row.S.Denot g.row.S-Cell.Denot). h.log) c.mover.view_is in
    let d : c.exchange.new.seat.me.0 ≡ c.mover.inside.seat.me.0 = ap (λ (m : Me (Option (Berth g.row.S-Cell.Denot)) Joined). m.0) c.exchange.ensures.3 in
    let v : c.exchange.new.seat.me.0.view ≡ c.args.mover.now.view = ap (λ (q : Joined). q.view) d ∙ e in let o : c.exchange.new.seat.me.0.log ≡ c.args.mover.now.log = ap (λ (q : Joined). q.log) d ∙ l in
    subst (λ (q : Seated). IsUnheld q.view c.args.obj → AddsOne q.log c.arrive_word.new.seat.me.0.log c.args.obj (Arrives q.view.number c.args.obj c.args.frame false)) (λ i. record { view = v i; log = o i }) c.arrive_word.ensures.unheld_log
