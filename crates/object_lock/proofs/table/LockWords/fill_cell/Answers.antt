use Rattle.std.proofs.Common.{subst, sym, ap, ◌∙◌, ◌≡◌, ◌<◌, ℕ, ◌++◌, [], ◌∷◌}
use Rattle.pointer_word.specs.Hands.{or_zero}
use Rattle.object_lock.specs.Seats.{Sizes, cell_word, sizes}
use Rattle.object_lock.proofs.Frames.{fills, some_of}
use mathlib.Core.Option.{none}
use Rattle.atomic_table.specs.Table.{step}
use Rattle.object_lock.proofs.Exact.{fills_step, fills_exactly, index_is}
use Rattle.object_lock.proofs.Asks.{asks_fill}
use Rattle.object_lock.proofs.Left.{cell_fills}
use Rattle.object_lock.specs.Logs.{deed}
use Rattle.pointer_word.specs.Calls.{Fills}
use Rattle.object_lock.specs.Joining.{own_view, own_seat}
use Rattle.object_lock.proofs.Joins.{joined_allows}
use Rattle.object_lock.specs.Logging.{logs_fill}
use Rattle.object_lock.proofs.table.LockWords.fill_cell.Goals as goal

pub store-requires : goal.store-requires
store-requires g c =
    let v = c.args.seat.now.me.0.view in let same = c.requires.table.1 in let mine : or_zero v.hand.claimed ≡ c.args.frame = ap or_zero c.requires.claimed in
    let cs = ap (λ (q : Sizes). q.cells) same in let l = c.requires.low.1 in (
      c.requires.table.0,
      c.cell_behind-cell.ensures.inside,
      joined_allows _ _ _ _ _ _ _ _ (λ (_ : ℕ). c.args.v) (λ _. logs_fill g.S.RawStore.honest (step c.args.self.now.table.shared.table_id.slots c.cell_behind-cell.result c.args.v 0 none) (own_seat c.args.seat.now.me) c.args.v) (c.requires.table.1 ∙ sym (ap sizes c.args.self.now.keyed)) (fills _ _ _ _ _ _ _ _ c.args.i _
          (c.cell_behind-cell.ensures.at ∙ ap (λ (q : Sizes). cell_word q c.args.frame c.args.i) (sym same) ∙ ap (λ (f : ℕ). cell_word v.sizes f c.args.i) (sym mine))
          (subst (λ (q : Sizes). c.args.i < q.cells) (sym same) l) (some_of v.hand.claimed _ c.requires.claimed)),
    )

pub returns-clause-step : goal.returns-clause-step
returns-clause-step g c =
    let v = c.args.seat.now.me.0.view in let same = c.requires.table.1 in let l = c.requires.low.1 in
    let s = fills_step g.S.RawStore.honest (step 0 c.cell_behind-cell.result c.args.v 0 none) (own_view c.args.seat.now.me) c.args.v (own_view c.store.new.seat.me) c.args.frame c.args.i c.requires.claimed
    (c.cell_behind-cell.ensures.at ∙ ap (λ (q : Sizes). cell_word q c.args.frame c.args.i) (sym same)) c.store.ensures.2.0.0 in
    (s.0, s.1, asks_fill g.S.RawStore.honest v s.0 s.1.knew c.args.frame c.args.i c.args.v (subst (λ (q : Sizes). c.args.i < q.cells) (sym same) l) c.requires.claimed, cell_fills s.0 v.number c.args.frame c.args.i c.args.v)

pub returns-clause-exactly : goal.returns-clause-exactly
returns-clause-exactly g c =
    let t = fills_exactly g.S.RawStore.honest (step 0 c.cell_behind-cell.result c.args.v 0 none) (own_view c.args.seat.now.me) c.args.v (own_view c.store.new.seat.me) c.args.frame c.args.i c.requires.claimed (c.cell_behind-cell.ensures.at ∙ ap (λ (q : Sizes). cell_word q c.args.frame c.args.i) (sym c.requires.table.1)) c.store.ensures.2.0.0 in λ i. (t.0 i, t.1 i)

pub returns-clause-logged : goal.returns-clause-logged
returns-clause-logged g c =
    let v = c.args.seat.now.me.0.view in let is = c.cell_behind-cell.ensures.at in let at = is ∙ ap (λ (q : Sizes). cell_word q c.args.frame c.args.i) (sym c.requires.table.1) in let mine : or_zero v.hand.claimed ≡ c.args.frame = ap or_zero c.requires.claimed in
    let index = index_is v c.cell_behind-cell.result (or_zero v.hand.claimed) c.args.i (at ∙ ap (λ (f : ℕ). cell_word v.sizes f c.args.i) (sym mine)) in let t = c.store.ensures.2.0.1 in
    (t.0, subst (λ (q : ℕ × ℕ × ℕ). c.store.new.seat.me.0.log ≡ c.args.seat.now.me.0.log ++ deed q.0 t.0 (Fills v.number q.1 q.2 c.args.v) ∷ []) (λ j. (is j, mine j, index j)) t.1)
