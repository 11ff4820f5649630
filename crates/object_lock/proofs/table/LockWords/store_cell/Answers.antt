use Rattle.std.proofs.Common.{subst, sym, ap, ◌∙◌, ◌<◌, ◌≡◌, ◌++◌, ℕ, [], ◌∷◌}
use Rattle.object_lock.specs.declared.shape.Shape.{Shape}
use Rattle.object_lock.specs.Seats.{Sizes, cell_word, sizes}
use mathlib.Core.Option.{none}
use Rattle.atomic_table.specs.Table.{step}
use Rattle.object_lock.proofs.Exact.{stores_exactly}
use Rattle.object_lock.proofs.Frames.{stores}
use Rattle.object_lock.proofs.Asks.{asks_store}
use Rattle.object_lock.proofs.Left.{cell_stores}
use Rattle.pointer_word.specs.Calls.{Stores}
use Rattle.object_lock.specs.Logs.{deed}
use Rattle.object_lock.specs.Joining.{own_seat}
use Rattle.object_lock.proofs.Joins.{joined_allows}
use Rattle.object_lock.specs.Logging.{logs_store}
use Rattle.object_lock.proofs.table.LockWords.store_cell.Goals as goal

pub store-requires : goal.store-requires
store-requires g c = let sized = c.args.self.now.sized.0 in let keyed = c.args.self.now.keyed in let zo = ap (λ (q : Shape). q.objects) keyed in let zf = ap (λ (q : Shape). q.frames) keyed in let same = c.requires.table.1 in let at = c.cell_at-cell.ensures.at ∙ ap (λ (q : Sizes). cell_word q c.args.frame c.args.i) (sym same) in let l = c.requires.low.1 in let low = subst (λ (q : Sizes). c.args.i < q.cells) (sym same) l in (c.requires.table.0, c.cell_at-cell.ensures.inside, joined_allows _ _ _ _ _ _ _ _ (λ (_ : ℕ). c.args.v) (λ _. logs_store g.S.RawStore.honest (step c.args.self.now.table.shared.table_id.slots c.cell_at-cell.result c.args.v 0 none) (own_seat c.args.seat.now.me) c.args.v) (c.requires.table.1 ∙ sym (ap sizes c.args.self.now.keyed)) (stores _ _ _ _ _ _ _ _ c.args.obj c.args.frame c.args.i _ (c.requires.hold.0, c.requires.hold.1, low, at) c.requires.hold.2))

pub returns-clause-exactly : goal.returns-clause-exactly
returns-clause-exactly g c = let same = c.requires.table.1 in let at = c.cell_at-cell.ensures.at ∙ ap (λ (q : Sizes). cell_word q c.args.frame c.args.i) (sym same) in let l = c.requires.low.1 in let low = subst (λ (q : Sizes). c.args.i < q.cells) (sym same) l in
    let e = stores_exactly _ (step 0 c.cell_at-cell.result c.args.v 0 none) _ c.args.v _ c.args.obj c.args.frame c.args.i (c.requires.hold.0, c.requires.hold.1, low, at) c.store.ensures.2.0.0 in (λ i. (e.0 i, e.1 i))

pub returns-clause-step : goal.returns-clause-step
returns-clause-step g c = let same = c.requires.table.1 in let at = c.cell_at-cell.ensures.at ∙ ap (λ (q : Sizes). cell_word q c.args.frame c.args.i) (sym same) in let l = c.requires.low.1 in let low = subst (λ (q : Sizes). c.args.i < q.cells) (sym same) l in
    let e = c.store.ensures.2.0.0.0 c.args.obj c.args.frame c.args.i (c.requires.hold.0, c.requires.hold.1, low, at) in
    (e.0, e.1, asks_store g.S.RawStore.honest c.args.seat.now.me.0.view e.0 e.1.knew c.args.obj c.args.frame c.args.i c.args.v c.requires.hold.0 c.requires.hold.1 c.requires.hold.2 low, cell_stores e.0 c.args.obj c.args.frame c.args.i c.args.v)

pub returns-clause-logged : goal.returns-clause-logged
returns-clause-logged g c = let same = c.requires.table.1 in let at = c.cell_at-cell.ensures.at ∙ ap (λ (q : Sizes). cell_word q c.args.frame c.args.i) (sym same) in let l = c.requires.low.1 in let low = subst (λ (q : Sizes). c.args.i < q.cells) (sym same) l in
    let t = c.store.ensures.2.0.1 c.args.obj c.args.frame c.args.i (c.requires.hold.0, c.requires.hold.1, low, at) in
    (t.0, subst (λ (k : ℕ). c.store.new.seat.me.0.log ≡ c.args.seat.now.me.0.log ++ deed k t.0 (Stores c.args.obj c.args.frame c.args.i c.args.v) ∷ []) c.cell_at-cell.ensures.at t.1)
