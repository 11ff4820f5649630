use Rattle.std.proofs.Common.{subst, sym, ap, ◌∙◌, ◌<◌, ℕ, ◌≡◌, ◌++◌, [], ◌∷◌, refl}
use mathlib.Core.Option.{none}
use Rattle.atomic_table.specs.Table.{step}
use Rattle.object_lock.specs.Seats.{Sizes, cell_word, sizes}
use Rattle.object_lock.proofs.Frames.{copies}
use Rattle.object_lock.proofs.Exact.{copies_exactly, copies_step, index_is}
use Rattle.object_lock.proofs.Asks.{asks_copy}
use Rattle.object_lock.specs.Logs.{deed}
use Rattle.pointer_word.specs.Calls.{Copies}
use Rattle.object_lock.specs.Joining.{own_view, own_seat}
use Rattle.object_lock.proofs.Joins.{joined_allows}
use Rattle.object_lock.specs.Logging.{logs_copy}
use Rattle.object_lock.proofs.table.LockWords.copy_cell.Goals as goal

pub load-requires : goal.load-requires
load-requires g c = let same = c.requires.table.1 in let at = c.cell_behind-cell.ensures.at ∙ ap (λ (q : Sizes). cell_word q c.args.frame c.args.i) (sym same) in let l = c.requires.low.1 in let low = subst (λ (q : Sizes). c.args.i < q.cells) (sym same) l in let h = c.requires.hands in
    (c.requires.table.0, c.cell_behind-cell.ensures.inside, joined_allows _ _ _ _ _ _ _ _ (λ (m : ℕ). m) (logs_copy g.S.RawStore.honest (step c.args.self.now.table.shared.table_id.slots c.cell_behind-cell.result 0 0 none) (own_seat c.args.seat.now.me)) (c.requires.table.1 ∙ sym (ap sizes c.args.self.now.keyed)) (copies _ _ _ _ _ _ _ _ h.0 c.args.i (at ∙ ap (λ (f : ℕ). cell_word c.args.seat.now.me.0.view.sizes f c.args.i) (sym h.2)) low h.1))

pub returns-clause-exactly : goal.returns-clause-exactly
returns-clause-exactly g c = let same = c.requires.table.1 in let at = c.cell_behind-cell.ensures.at ∙ ap (λ (q : Sizes). cell_word q c.args.frame c.args.i) (sym same) in
    let t = copies_exactly g.S.RawStore.honest (step 0 c.cell_behind-cell.result 0 0 none) (own_view c.args.seat.now.me) c.load.result (own_view c.load.new.seat.me) c.args.frame c.args.i c.requires.hands.2 at c.load.ensures.2.0.0 in λ i. (t.0 i, t.1 i)

pub returns-clause-step : goal.returns-clause-step
returns-clause-step g c = let same = c.requires.table.1 in let at = c.cell_behind-cell.ensures.at ∙ ap (λ (q : Sizes). cell_word q c.args.frame c.args.i) (sym same) in let l = c.requires.low.1 in
    let t = copies_step g.S.RawStore.honest (step 0 c.cell_behind-cell.result 0 0 none) (own_view c.args.seat.now.me) c.load.result (own_view c.load.new.seat.me) c.args.frame c.args.i c.requires.hands.2 at c.load.ensures.2.0.0 in
    (t.0, t.1, asks_copy g.S.RawStore.honest c.args.seat.now.me.0.view t.0 t.1.knew c.args.frame c.args.i (subst (λ (q : Sizes). c.args.i < q.cells) (sym same) l) c.requires.hands, t.2)

pub returns-clause-logged : goal.returns-clause-logged
returns-clause-logged g c =
    let v = c.args.seat.now.me.0.view in let is = c.cell_behind-cell.ensures.at in let at = is ∙ ap (λ (q : Sizes). cell_word q c.args.frame c.args.i) (sym c.requires.table.1) in let from = c.requires.hands.2 in
    let index = index_is v c.cell_behind-cell.result v.hand.source c.args.i (at ∙ ap (λ (f : ℕ). cell_word v.sizes f c.args.i) (sym from)) in
    (c.load.result, subst (λ (q : ℕ × ℕ × ℕ). c.load.new.seat.me.0.log ≡ c.args.seat.now.me.0.log ++ deed q.0 c.load.result (Copies v.number q.1 q.2) ∷ []) (λ j. (is j, from j, index j)) c.load.ensures.2.0.1, refl)
