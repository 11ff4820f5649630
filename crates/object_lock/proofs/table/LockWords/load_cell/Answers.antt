use Rattle.std.proofs.Common.{◌<◌, ◌∙◌, ap, sym, subst, ℕ}
use Rattle.object_lock.specs.Seats.{Sizes, cell_word, sizes}
use Rattle.object_lock.proofs.Frames.{loads}
use Rattle.object_lock.specs.Joining.{own_seat}
use Rattle.object_lock.proofs.Joins.{joined_allows}
use Rattle.object_lock.specs.Logging.{logs_load}
use Rattle.atomic_table.specs.Table.{step}
use mathlib.Core.Option.{none}
use Rattle.object_lock.proofs.table.LockWords.load_cell.Goals as goal

pub load-requires : goal.load-requires
load-requires g c = (c.requires.table.0, c.cell_at-cell.ensures.inside, joined_allows _ _ _ _ _ _ _ _ (λ (m : ℕ). m) (logs_load g.S.RawStore.honest (step c.args.self.now.table.shared.table_id.slots c.cell_at-cell.result 0 0 none) (own_seat c.args.seat.now.me)) (c.requires.table.1 ∙ sym (ap sizes c.args.self.now.keyed)) (loads _ _ _ _ _ _ _ _))

pub returns-clause-look : goal.returns-clause-look
returns-clause-look g c = let same = c.requires.table.1 in let at = c.cell_at-cell.ensures.at ∙ ap (λ (q : Sizes). cell_word q c.args.frame c.args.i) (sym same) in let l = c.requires.low.1 in let low = subst (λ (q : Sizes). c.args.i < q.cells) (sym same) l in
    (c.load.ensures.2.0.0.2 c.args.obj c.args.frame c.args.i (c.requires.hold.0, c.requires.hold.1, low, at)).1

pub returns-clause-same : goal.returns-clause-same
returns-clause-same g c = let t = c.load.ensures.2.0.0 in let l = c.load.ensures.2.0.1 in λ i. (record { view = t.0 i; log = l i; others = c.load.ensures.2.1 i }, t.1 i)

pub returns-clause-latest : goal.returns-clause-latest
returns-clause-latest g c = let same = c.requires.table.1 in let at = c.cell_at-cell.ensures.at ∙ ap (λ (q : Sizes). cell_word q c.args.frame c.args.i) (sym same) in let l = c.requires.low.1 in let low = subst (λ (q : Sizes). c.args.i < q.cells) (sym same) l in
    (c.load.ensures.2.0.0.2 c.args.obj c.args.frame c.args.i (c.requires.hold.0, c.requires.hold.1, low, at)).0
