use Rattle.std.proofs.Common.{◌≡◌, ◌<◌, ℕ, true, List, refl, sym, ap, ap₂, ◌∙◌, subst, arith}
use Rattle.std.specs.Prelude.{Option}
use mathlib.Core.Path.{Path}
use Rattle.atomic_table.specs.Table.{Me}
use Rattle.pointer_word.specs.Words.{Leaving, face, pack}
use Rattle.pointer_word.specs.Calls.{Commits}
use Rattle.pointer_word.proofs.Bits.{is_marked_here}
use Rattle.object_lock.specs.Plays.{Found, Steps}
use Rattle.remote_store.specs.declared.berth.Berth.{Berth}
use Rattle.object_lock.specs.Seats.{Sizes, View}
use Rattle.object_lock.specs.Logs.{AddsTry, Deed, Seated}
use Rattle.object_lock.specs.Joining.{Joined, own_view}
use Rattle.object_lock.specs.SeatViews.{TableView, SeatView}
use Rattle.object_lock.proofs.Answered.{put_copied}
use Rattle.object_lock.proofs.table.ObjectTable.try_commit.Goals as goal

pub commit_word-found-requires-clause-copied : goal.commit_word-found-requires-clause-copied
commit_word-found-requires-clause-copied g c κs within =
    let e : c.mover.inside.seat.me.0.view ≡ c.args.mover.now.view = ap (λ (h : SeatView g.row.S.Denot g.row.S-Cell.Denot). h.view) c.mover.view_is in
    let taken : Path (Option (Berth g.row.S-Cell.Denot)) c.take-berth.result c.args.mover.now.taken = c.take-berth.ensures.value ∙ ap (λ (h : SeatView g.row.S.Denot g.row.S-Cell.Denot). h.taken) c.mover.view_is in
    put_copied g.S.RawStore.fits g.S.RawStore.content c.args.obj (own_view c.exchange.new.seat.me) c.mover.inside.seat.me.0.view _ c.take-berth.result c.args.mover.now _ _ (ap own_view c.exchange.ensures.3) e taken
    (ap (λ (v : View). v.sizes.cells) e ∙ ap (λ (z : Sizes). z.cells) c.requires.table.1) (ap (λ (t : TableView). t.sizes.cells) c.self.view_is) c.requires.put

pub returns-then-found-marked-clause-logged : goal.returns-then-found-marked-clause-logged
returns-then-found-marked-clause-logged g c =
    let e : c.mover.inside.seat.me.0.view ≡ c.args.mover.now.view = ap (λ (h : SeatView g.row.S.Denot g.row.S-Cell.Denot). h.view) c.mover.view_is in let f : c.mover.inside.seat.me.0.log ≡ c.args.mover.now.log = ap (λ (h : SeatView g.row.S.Denot g.row.S-Cell.Denot). h.log) c.mover.view_is in
    let d : c.exchange.new.seat.me.0 ≡ c.mover.inside.seat.me.0 = ap (λ (m : Me (Option (Berth g.row.S-Cell.Denot)) Joined). m.0) c.exchange.ensures.3 in
    let v : c.exchange.new.seat.me.0.view ≡ c.args.mover.now.view = ap (λ (q : Joined). q.view) d ∙ e in let l : c.exchange.new.seat.me.0.log ≡ c.args.mover.now.log = ap (λ (q : Joined). q.log) d ∙ f in
    let source : c.mover.inside.source ≡ c.args.mover.now.view.hand.source = c.mover.invariant.7 ∙ ap (λ (q : View). q.hand.source) e in let number : c.mover.inside.number ≡ c.args.mover.now.view.number = c.mover.invariant.0 ∙ ap (λ (q : View). q.number) e in
    let bits : c.leaving-marked.result.bits ≡ face (Leaving c.args.mover.now.view.hand.source c.args.mover.now.view.number true) 0 = c.leaving-marked.ensures ∙ ap₂ (λ (k m : ℕ). face (Leaving k m true) 0) source number in
    let cells : c.self.inside.words.shape.cells ≡ c.args.self.now.sizes.cells = ap (λ (t : TableView). t.sizes.cells) c.self.view_is in
    let made = subst (λ (q : ℕ × Seated). AddsTry q.0 q.1.view q.1.log c.commit_word-found.new.seat.me.0.log c.args.obj c.commit_word-found.result) (λ i. (cells i, record { view = v i; log = l i })) c.commit_word-found.ensures.logged in
    let back : c.commit_word-found.new.seat.me.0.log ≡ c.exchange-then-found-marked.new.seat.me.0.log = sym (ap (λ (m : Me (Option (Berth g.row.S-Cell.Denot)) Joined). m.0.log) c.exchange-then-found-marked.ensures.3) in
    (c.commit_word-found.result, subst (λ (ds : List Deed). AddsTry c.args.self.now.sizes.cells c.args.mover.now.view c.args.mover.now.log ds c.args.obj c.commit_word-found.result) back made, ((λ h. absurd (cc)), (λ h. absurd (c.if-found-marked.true (h ∙ sym bits)))))

pub returns-clause-logged : goal.returns-clause-logged
returns-clause-logged g c =
    let e : c.mover.inside.seat.me.0.view ≡ c.args.mover.now.view = ap (λ (h : SeatView g.row.S.Denot g.row.S-Cell.Denot). h.view) c.mover.view_is in let f : c.mover.inside.seat.me.0.log ≡ c.args.mover.now.log = ap (λ (h : SeatView g.row.S.Denot g.row.S-Cell.Denot). h.log) c.mover.view_is in
    let d : c.exchange.new.seat.me.0 ≡ c.mover.inside.seat.me.0 = ap (λ (m : Me (Option (Berth g.row.S-Cell.Denot)) Joined). m.0) c.exchange.ensures.3 in
    let v : c.exchange.new.seat.me.0.view ≡ c.args.mover.now.view = ap (λ (q : Joined). q.view) d ∙ e in let l : c.exchange.new.seat.me.0.log ≡ c.args.mover.now.log = ap (λ (q : Joined). q.log) d ∙ f in
    let source : c.mover.inside.source ≡ c.args.mover.now.view.hand.source = c.mover.invariant.7 ∙ ap (λ (q : View). q.hand.source) e in let number : c.mover.inside.number ≡ c.args.mover.now.view.number = c.mover.invariant.0 ∙ ap (λ (q : View). q.number) e in
    let bits : c.leaving-marked.result.bits ≡ face (Leaving c.args.mover.now.view.hand.source c.args.mover.now.view.number true) 0 = c.leaving-marked.ensures ∙ ap₂ (λ (k m : ℕ). face (Leaving k m true) 0) source number in
    let cells : c.self.inside.words.shape.cells ≡ c.args.self.now.sizes.cells = ap (λ (t : TableView). t.sizes.cells) c.self.view_is in
    let made = subst (λ (q : ℕ × Seated). AddsTry q.0 q.1.view q.1.log c.commit_word-found.new.seat.me.0.log c.args.obj c.commit_word-found.result) (λ i. (cells i, record { view = v i; log = l i })) c.commit_word-found.ensures.logged in
    (c.commit_word-found.result, made, ((λ _. c.if-found-marked.false ∙ bits), (λ _. refl)))

pub returns-then-found-marked-clause-step : goal.returns-then-found-marked-clause-step
returns-then-found-marked-clause-step g c =
    let e : c.mover.inside.seat.me.0.view ≡ c.args.mover.now.view = ap (λ (h : SeatView g.row.S.Denot g.row.S-Cell.Denot). h.view) c.mover.view_is in let f : c.mover.inside.seat.me.0.log ≡ c.args.mover.now.log = ap (λ (h : SeatView g.row.S.Denot g.row.S-Cell.Denot). h.log) c.mover.view_is in
    let d : c.exchange.new.seat.me.0 ≡ c.mover.inside.seat.me.0 = ap (λ (m : Me (Option (Berth g.row.S-Cell.Denot)) Joined). m.0) c.exchange.ensures.3 in
    let v : c.exchange.new.seat.me.0.view ≡ c.args.mover.now.view = ap (λ (q : Joined). q.view) d ∙ e in let l : c.exchange.new.seat.me.0.log ≡ c.args.mover.now.log = ap (λ (q : Joined). q.log) d ∙ f in
    let source : c.mover.inside.source ≡ c.args.mover.now.view.hand.source = c.mover.invariant.7 ∙ ap (λ (q : View). q.hand.source) e in let number : c.mover.inside.number ≡ c.args.mover.now.view.number = c.mover.invariant.0 ∙ ap (λ (q : View). q.number) e in
    let bits : c.leaving-marked.result.bits ≡ face (Leaving c.args.mover.now.view.hand.source c.args.mover.now.view.number true) 0 = c.leaving-marked.ensures ∙ ap₂ (λ (k m : ℕ). face (Leaving k m true) 0) source number in
    let back : c.commit_word-found.new.seat.me.0.view ≡ c.exchange-then-found-marked.new.seat.me.0.view = sym (ap (λ (m : Me (Option (Berth g.row.S-Cell.Denot)) Joined). m.0.view) c.exchange-then-found-marked.ensures.3) in
    let s = subst (λ (q : View × View). Steps g.S.RawStore.honest (Commits q.0.number c.args.obj q.0.hand.source) q.0 q.1 (λ x. Found q.0.sizes (x.word c.args.obj) c.commit_word-found.result)) (λ i. (v i, back i)) c.commit_word-found.ensures.step in
    (s.0, s.1, s.2, ((λ h. absurd (cc)), (λ h. absurd (c.if-found-marked.true (s.3.0 ∙ ap pack h ∙ sym bits)))))

pub returns-clause-step : goal.returns-clause-step
returns-clause-step g c =
    let e : c.mover.inside.seat.me.0.view ≡ c.args.mover.now.view = ap (λ (h : SeatView g.row.S.Denot g.row.S-Cell.Denot). h.view) c.mover.view_is in let f : c.mover.inside.seat.me.0.log ≡ c.args.mover.now.log = ap (λ (h : SeatView g.row.S.Denot g.row.S-Cell.Denot). h.log) c.mover.view_is in
    let d : c.exchange.new.seat.me.0 ≡ c.mover.inside.seat.me.0 = ap (λ (m : Me (Option (Berth g.row.S-Cell.Denot)) Joined). m.0) c.exchange.ensures.3 in
    let v : c.exchange.new.seat.me.0.view ≡ c.args.mover.now.view = ap (λ (q : Joined). q.view) d ∙ e in let l : c.exchange.new.seat.me.0.log ≡ c.args.mover.now.log = ap (λ (q : Joined). q.log) d ∙ f in
    let source : c.mover.inside.source ≡ c.args.mover.now.view.hand.source = c.mover.invariant.7 ∙ ap (λ (q : View). q.hand.source) e in let number : c.mover.inside.number ≡ c.args.mover.now.view.number = c.mover.invariant.0 ∙ ap (λ (q : View). q.number) e in
    let bits : c.leaving-marked.result.bits ≡ face (Leaving c.args.mover.now.view.hand.source c.args.mover.now.view.number true) 0 = c.leaving-marked.ensures ∙ ap₂ (λ (k m : ℕ). face (Leaving k m true) 0) source number in
    let s = subst (λ (q : View). Steps g.S.RawStore.honest (Commits q.number c.args.obj q.hand.source) q c.commit_word-found.new.seat.me.0.view (λ x. Found q.sizes (x.word c.args.obj) c.commit_word-found.result)) v c.commit_word-found.ensures.step in
    let w = s.0.word c.args.obj in let found = s.3 in
    let q = is_marked_here w.place w.count c.args.mover.now.view.hand.source c.args.mover.now.view.number 0 found.1.0.1 found.1.0.0 (omega arith) (subst (λ (k : ℕ). k < 16777216) source c.mover.invariant.8) (subst (λ (k : ℕ). k < 65536) number c.mover.invariant.1) (sym found.0 ∙ (c.if-found-marked.false ∙ bits)) in
    (s.0, s.1, s.2, ((λ _. λ i. record { count = q.1 i; place = q.0 i }), (λ _. refl)))
