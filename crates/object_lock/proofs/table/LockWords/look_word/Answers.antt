use Rattle.std.proofs.Common.{sym, ap, ◌∙◌, arith, ℕ}
use Rattle.object_lock.specs.Seats.{Sizes, frame_word, sizes}
use Rattle.object_lock.proofs.Frames.{looks}
use Rattle.object_lock.proofs.Exact.{look_is}
use Rattle.object_lock.specs.Joining.{own_seat}
use Rattle.object_lock.proofs.Joins.{joined_allows}
use Rattle.object_lock.specs.Logging.{logs_look}
use Rattle.atomic_table.specs.Table.{step}
use mathlib.Core.Option.{none}
use Rattle.object_lock.proofs.table.LockWords.look_word.Goals as goal

pub load-requires : goal.load-requires
load-requires g c = let same = c.requires.table.1 in let at = c.frame_at-word.ensures.at ∙ ap (λ (q : Sizes). frame_word q c.args.frame) (sym same) in let fs = ap (λ (q : Sizes). q.frames) same in let l = c.requires.low in
    (c.requires.table.0, c.frame_at-word.ensures.inside, joined_allows _ _ _ _ _ _ _ _ (λ (m : ℕ). m) (logs_look g.S.RawStore.honest (step c.args.self.now.table.shared.table_id.slots c.frame_at-word.result 0 0 none) (own_seat c.args.seat.now.me)) (c.requires.table.1 ∙ sym (ap sizes c.args.self.now.keyed)) (looks _ _ _ _ _ _ _ _ c.args.frame at (omega arith)))

pub returns-clause-look : goal.returns-clause-look
returns-clause-look g c = let same = c.requires.table.1 in look_is g.S.RawStore.honest c.args.seat.now.me.0.view c.frame_at-word.result c.args.frame c.load.result (c.frame_at-word.ensures.at ∙ ap (λ (q : Sizes). frame_word q c.args.frame) (sym same)) c.load.ensures.2.0.0.3

pub returns-clause-same : goal.returns-clause-same
returns-clause-same g c = let t = c.load.ensures.2.0.0 in let l = c.load.ensures.2.0.1 in λ i. (record { view = t.0 i; log = l i; others = c.load.ensures.2.1 i }, t.1 i)
