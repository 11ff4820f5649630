use Rattle.std.proofs.Common.{arith, ◌≡◌, ℕ, sym, ap, ◌∙◌, subst, not, eq-eqb, ne_eqb, ap₂, Bool, true, List}
use Rattle.std.specs.Prelude.{Option, Some, ◌==◌, ◌&&◌, ◌||◌}
use mathlib.Core.Path.{Path}
use Rattle.atomic_table.specs.Table.{Me}
use Rattle.pointer_word.specs.Words.{counted, framed}
use Rattle.pointer_word.specs.Hands.{bringing}
use Rattle.remote_store.specs.declared.berth.Berth.{Berth}
use Rattle.object_lock.specs.Kept.{slot_keeps}
use Rattle.object_lock.specs.Seats.{View, with_hand}
use Rattle.object_lock.specs.Logs.{Seated, Adds, Deed, deed, tells_frame}
use Rattle.object_lock.specs.Joining.{Joined}
use Rattle.object_lock.proofs.Keeping.{is_so, not_kept}
use Rattle.object_lock.specs.SeatViews.{SeatView}
use Rattle.object_lock.specs.declared.answers.Begin.TheVariants as B
use Rattle.pointer_word.specs.Calls.{Begins}
use Rattle.object_lock.specs.Plays.{FoundWord, Steps}
use Rattle.object_lock.specs.Telling.{tried, Begun, Fetched}
use Rattle.object_lock.proofs.Answered.{never_taken, no_frame, some_frame, told_frame, not_begun, not_fetched, berth_in, first_slot, tried_hit, tried_miss}
use Rattle.object_lock.proofs.table.ObjectTable.try_begin.Goals as goal

pub returns-else-found-count-clause-told : goal.returns-else-found-count-clause-told
returns-else-found-count-clause-told g c held =
    let t = c.begin_word-found.ensures.missed c.if-found-count.false in let v = c.mover.view_is in let o : ℕ = c.args.obj in let w = c.begin_word-found in let own = t.3 held in
    let old : SeatView g.row.S.Denot g.row.S-Cell.Denot = record { table = c.mover.inside.seat.table_id; id = c.mover.inside.seat.id; view = c.mover.inside.seat.me.0.view; log = c.mover.inside.seat.me.0.log; brought = c.mover.inside.brought; taken = c.mover.inside.taken; store = c.mover.inside.port.store; refusals = c.mover.inside.port.refusals } in
    let new : SeatView g.row.S.Denot g.row.S-Cell.Denot = record { table = w.new.seat.table_id; id = w.new.seat.id; view = w.new.seat.me.0.view; log = w.new.seat.me.0.log; brought = c.mover.inside.brought; taken = c.mover.inside.taken; store = c.mover.inside.port.store; refusals = c.mover.inside.port.refusals } in
    subst (λ (h : SeatView g.row.S.Denot g.row.S-Cell.Denot). Begun g.S.RawStore.fits g.S.RawStore.content o h new c.begin_of.result) v
    (not_begun g.S.RawStore.fits g.S.RawStore.content o old new t.1 c.begin_of.result (c.begin_of.ensures (counted t.0 t.1) t.2.1.0 t.2.0) t.2.1.1 own.0
    (λ i. record { table = w.ensures.seat.0 i; id = w.ensures.seat.1 i; view = ap (λ (m : Me (Option (Berth g.row.S-Cell.Denot)) View). m.0) own.1 i; log = w.new.seat.me.0.log; brought = c.mover.inside.brought; taken = c.mover.inside.taken; store = c.mover.inside.port.store; refusals = c.mover.inside.port.refusals })
    (λ none. not_kept c.mover.inside.seat.me.0.log w.new.seat.me.0.log (deed o w.result (Begins c.mover.inside.seat.me.0.view.number o c.args.count (not (c.args.count == 0))))
    (ap₂ (λ (a b : Bool). a || b) (ne_eqb w.result c.args.count c.if-found-count.false) (ap₂ (λ (a b : Bool). a && b) (ap not (ne_eqb c.args.count 0 (λ z. omega arith))) (no_frame t.1 t.0 w.result t.2.1.0.0 t.2.1.0.1 t.2.0 none))) w.ensures.logged))

pub returns-else-found-count-clause-fetched : goal.returns-else-found-count-clause-fetched
returns-else-found-count-clause-fetched g c none =
    let t = c.begin_word-found.ensures.missed c.if-found-count.false in let v = c.mover.view_is in let o : ℕ = c.args.obj in let w = c.begin_word-found in let same = t.4 none in
    let old : SeatView g.row.S.Denot g.row.S-Cell.Denot = record { table = c.mover.inside.seat.table_id; id = c.mover.inside.seat.id; view = c.mover.inside.seat.me.0.view; log = c.mover.inside.seat.me.0.log; brought = c.mover.inside.brought; taken = c.mover.inside.taken; store = c.mover.inside.port.store; refusals = c.mover.inside.port.refusals } in
    let new : SeatView g.row.S.Denot g.row.S-Cell.Denot = record { table = w.new.seat.table_id; id = w.new.seat.id; view = w.new.seat.me.0.view; log = w.new.seat.me.0.log; brought = c.mover.inside.brought; taken = c.mover.inside.taken; store = c.mover.inside.port.store; refusals = c.mover.inside.port.refusals } in
    subst (λ (h : SeatView g.row.S.Denot g.row.S-Cell.Denot). Fetched g.S.RawStore.fits g.S.RawStore.content o h new c.begin_of.result) v
    (not_fetched g.S.RawStore.fits g.S.RawStore.content o old new t.1 c.begin_of.result (c.begin_of.ensures (counted t.0 t.1) t.2.1.0 t.2.0) t.2.1.1
    (λ i. record { table = w.ensures.seat.0 i; id = w.ensures.seat.1 i; view = ap (λ (m : Me (Option (Berth g.row.S-Cell.Denot)) Joined). m.0.view) same i; log = ap (λ (m : Me (Option (Berth g.row.S-Cell.Denot)) Joined). m.0.log) same i; brought = c.mover.inside.brought; taken = c.mover.inside.taken; store = c.mover.inside.port.store; refusals = c.mover.inside.port.refusals }))

pub returns-then-found-count-clause-told : goal.returns-then-found-count-clause-told
returns-then-found-count-clause-told g c held =
    let w = c.begin_word-found in let t = w.ensures.taken c.if-found-count.true in let x = c.exchange.ensures in let v = c.mover.view_is in
    let slots = ap (λ (m : Me (Option (Berth g.row.S-Cell.Denot)) View). m.1) t.3 in
    let got : Path (Option (Berth g.row.S-Cell.Denot)) c.exchange.result t.0 = first_slot (c.args.obj, c.exchange.result) (c.args.obj, t.0) _ _ (sym x.2 ∙ slots) in
    let e : c.mover.inside.seat.me.0.view ≡ c.args.mover.now.view = ap (λ (h : SeatView g.row.S.Denot g.row.S-Cell.Denot). h.view) v in
    let kept = subst (λ (q : View). slot_keeps g.S.RawStore.fits g.S.RawStore.content q.sizes.cells t.0 c.args.obj t.1) e t.2 in
    let b = berth_in g.S.RawStore.fits g.S.RawStore.content c.args.mover.now.view.sizes.cells c.args.obj t.1 t.0 c.exchange.result kept got in (
      b.0,
      t.1,
      b.1,
      λ i. record {
        table = (x.0 ∙ (w.ensures.seat.0 ∙ ap (λ (h : SeatView g.row.S.Denot g.row.S-Cell.Denot). h.table) v)) i;
        id = (x.1 ∙ (w.ensures.seat.1 ∙ ap (λ (h : SeatView g.row.S.Denot g.row.S-Cell.Denot). h.id) v)) i;
        view = (ap (λ (m : Me (Option (Berth g.row.S-Cell.Denot)) Joined). m.0.view) x.3 ∙ (ap (λ (m : Me (Option (Berth g.row.S-Cell.Denot)) View). m.0) t.3 ∙ ap (λ (h : SeatView g.row.S.Denot g.row.S-Cell.Denot). with_hand h.view (bringing h.view.hand c.args.obj t.1)) v)) i;
        log = c.exchange.new.seat.me.0.log;
        brought = b.2 i;
        taken = ap (λ (h : SeatView g.row.S.Denot g.row.S-Cell.Denot). h.taken) v i;
        store = ap (λ (h : SeatView g.row.S.Denot g.row.S-Cell.Denot). h.store) v i;
        refusals = ap (λ (h : SeatView g.row.S.Denot g.row.S-Cell.Denot). h.refusals) v i;
      },
    )

pub returns-then-found-count-clause-fetched : goal.returns-then-found-count-clause-fetched
returns-then-found-count-clause-fetched g c none =
    let w = c.begin_word-found in let t = w.ensures.taken c.if-found-count.true in let x = c.exchange.ensures in let v = c.mover.view_is in
    let slots = ap (λ (m : Me (Option (Berth g.row.S-Cell.Denot)) View). m.1) t.3 in
    let got : Path (Option (Berth g.row.S-Cell.Denot)) c.exchange.result t.0 = first_slot (c.args.obj, c.exchange.result) (c.args.obj, t.0) _ _ (sym x.2 ∙ slots) in
    let e : c.mover.inside.seat.me.0.view ≡ c.args.mover.now.view = ap (λ (h : SeatView g.row.S.Denot g.row.S-Cell.Denot). h.view) v in
    let kept = subst (λ (q : View). slot_keeps g.S.RawStore.fits g.S.RawStore.content q.sizes.cells t.0 c.args.obj t.1) e t.2 in
    let b = berth_in g.S.RawStore.fits g.S.RawStore.content c.args.mover.now.view.sizes.cells c.args.obj t.1 t.0 c.exchange.result kept got in (
      b.0,
      t.1,
      b.1,
      λ i. record {
        table = (x.0 ∙ (w.ensures.seat.0 ∙ ap (λ (h : SeatView g.row.S.Denot g.row.S-Cell.Denot). h.table) v)) i;
        id = (x.1 ∙ (w.ensures.seat.1 ∙ ap (λ (h : SeatView g.row.S.Denot g.row.S-Cell.Denot). h.id) v)) i;
        view = (ap (λ (m : Me (Option (Berth g.row.S-Cell.Denot)) Joined). m.0.view) x.3 ∙ (ap (λ (m : Me (Option (Berth g.row.S-Cell.Denot)) View). m.0) t.3 ∙ ap (λ (h : SeatView g.row.S.Denot g.row.S-Cell.Denot). with_hand h.view (bringing h.view.hand c.args.obj t.1)) v)) i;
        log = c.exchange.new.seat.me.0.log;
        brought = b.2 i;
        taken = ap (λ (h : SeatView g.row.S.Denot g.row.S-Cell.Denot). h.taken) v i;
        store = ap (λ (h : SeatView g.row.S.Denot g.row.S-Cell.Denot). h.store) v i;
        refusals = ap (λ (h : SeatView g.row.S.Denot g.row.S-Cell.Denot). h.refusals) v i;
      },
    )

pub returns-then-found-count-clause-step : goal.returns-then-found-count-clause-step
returns-then-found-count-clause-step g c =
    let w = c.begin_word-found in let s = w.ensures.step in let o : ℕ = c.args.obj in let n : ℕ = c.args.count in let low = c.requires.low.1 in
    let e : c.mover.inside.seat.me.0.view ≡ c.args.mover.now.view = ap (λ (h : SeatView g.row.S.Denot g.row.S-Cell.Denot). h.view) c.mover.view_is in
    let d : w.new.seat.me.0.view ≡ c.exchange.new.seat.me.0.view = sym (ap (λ (m : Me (Option (Berth g.row.S-Cell.Denot)) Joined). m.0.view) c.exchange.ensures.3) in
    subst (λ (q : View × View). Steps g.S.RawStore.honest (Begins q.0.number o n (not (n == 0))) q.0 q.1 (λ x. B.Taken ≡ tried n (x.word o))) (λ i. (e i, d i))
    (s.0, s.1, s.2, tried_hit c.mover.inside.seat.me.0.view.sizes (s.0.word o) w.result n (omega arith) s.3 c.if-found-count.true)

pub returns-else-found-count-clause-step : goal.returns-else-found-count-clause-step
returns-else-found-count-clause-step g c =
    let w = c.begin_word-found in let s = w.ensures.step in let o : ℕ = c.args.obj in let n : ℕ = c.args.count in
    let e : c.mover.inside.seat.me.0.view ≡ c.args.mover.now.view = ap (λ (h : SeatView g.row.S.Denot g.row.S-Cell.Denot). h.view) c.mover.view_is in
    subst (λ (q : View). Steps g.S.RawStore.honest (Begins q.number o n (not (n == 0))) q w.new.seat.me.0.view (λ x. c.begin_of.result ≡ tried n (x.word o))) e
    (s.0, s.1, s.2, tried_miss c.mover.inside.seat.me.0.view.sizes (s.0.word o) w.result n c.begin_of.result s.3 c.if-found-count.false (c.begin_of.ensures (s.0.word o) s.3.1.0 s.3.0))

pub returns-then-found-count-clause-logged : goal.returns-then-found-count-clause-logged
returns-then-found-count-clause-logged g c _ =
    let w = c.begin_word-found in let o : ℕ = c.args.obj in let n : ℕ = c.args.count in
    let e : c.mover.inside.seat.me.0.view ≡ c.args.mover.now.view = ap (λ (h : SeatView g.row.S.Denot g.row.S-Cell.Denot). h.view) c.mover.view_is in let l : c.mover.inside.seat.me.0.log ≡ c.args.mover.now.log = ap (λ (h : SeatView g.row.S.Denot g.row.S-Cell.Denot). h.log) c.mover.view_is in
    let d : w.new.seat.me.0.log ≡ c.exchange.new.seat.me.0.log = sym (ap (λ (m : Me (Option (Berth g.row.S-Cell.Denot)) Joined). m.0.log) c.exchange.ensures.3) in
    let made = is_so c.mover.inside.seat.me.0.log w.new.seat.me.0.log (deed o w.result (Begins c.mover.inside.seat.me.0.view.number o n (not (n == 0)))) (ap (λ (a : Bool). a || (not (n == 0) && tells_frame w.result)) (eq-eqb w.result n c.if-found-count.true)) w.ensures.logged in
    subst (λ (q : Seated × List Deed). Adds q.0.log q.1 o (Begins q.0.view.number o n (not (n == 0))) (λ k. k ≡ n)) (λ i. (record { view = e i; log = l i }, d i)) (w.result, made, c.if-found-count.true)

pub returns-else-found-count-clause-logged : goal.returns-else-found-count-clause-logged
returns-else-found-count-clause-logged g c taken =
    let t = c.begin_word-found.ensures.missed c.if-found-count.false in let is = c.begin_of.ensures (counted t.0 t.1) t.2.1.0 t.2.0 in
    absurd (never_taken t.1 (sym is ∙ taken))

pub returns-then-found-count-clause-noted : goal.returns-then-found-count-clause-noted
returns-then-found-count-clause-noted g c f held h = absurd (cc)

pub returns-else-found-count-clause-noted : goal.returns-else-found-count-clause-noted
returns-else-found-count-clause-noted g c f held h =
    let w = c.begin_word-found in let o : ℕ = c.args.obj in let n : ℕ = c.args.count in let t = w.ensures.missed c.if-found-count.false in
    let e : c.mover.inside.seat.me.0.view ≡ c.args.mover.now.view = ap (λ (h : SeatView g.row.S.Denot g.row.S-Cell.Denot). h.view) c.mover.view_is in let l : c.mover.inside.seat.me.0.log ≡ c.args.mover.now.log = ap (λ (h : SeatView g.row.S.Denot g.row.S-Cell.Denot). h.log) c.mover.view_is in
    let there = told_frame t.1 f (sym (c.begin_of.ensures (counted t.0 t.1) t.2.1.0 t.2.0) ∙ h) in
    let own : not (n == 0) ≡ true = ap not (ne_eqb n 0 (λ z. omega arith)) in
    let kept = ap₂ (λ (a b : Bool). (w.result == n) || (a && b)) own (some_frame t.1 t.0 w.result f t.2.1.0.0 t.2.1.0.1 t.2.0 there) ∙ ap (λ (a : Bool). a || true) (ne_eqb w.result n c.if-found-count.false) in
    let made = is_so c.mover.inside.seat.me.0.log w.new.seat.me.0.log (deed o w.result (Begins c.mover.inside.seat.me.0.view.number o n (not (n == 0)))) kept w.ensures.logged in
    subst (λ (q : Seated × Bool). Adds q.0.log w.new.seat.me.0.log o (Begins q.0.view.number o n q.1) (FoundWord q.0.view.sizes (λ x. framed x.place ≡ Some f))) (λ i. (record { view = e i; log = l i }, own i))
    (w.result, made, (counted t.0 t.1, t.2, there))
