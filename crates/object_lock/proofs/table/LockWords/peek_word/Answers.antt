use Rattle.std.proofs.Common.{ap, arith, sym, ◌∙◌, ℕ}
use Rattle.object_lock.specs.Seats.{Sizes, sizes}
use Rattle.object_lock.proofs.Owner.{peeks}
use Rattle.object_lock.specs.Joining.{own_seat}
use Rattle.object_lock.proofs.Joins.{joined_allows}
use Rattle.object_lock.specs.Logging.{logs_peek}
use Rattle.atomic_table.specs.Table.{step}
use mathlib.Core.Option.{none}
use Rattle.object_lock.proofs.table.LockWords.peek_word.Goals as goal

pub load-requires : goal.load-requires
load-requires g c = let same = c.requires.table.1 in let os = ap (λ (q : Sizes). q.objects) same in let l = c.requires.low in let sized = c.args.self.now.sized.0 in
    (c.requires.table.0, omega arith, joined_allows _ _ _ _ _ _ _ _ (λ (m : ℕ). m) (logs_peek g.S.RawStore.honest (step c.args.self.now.table.shared.table_id.slots c.args.obj 0 0 none) (own_seat c.args.seat.now.me)) (c.requires.table.1 ∙ sym (ap sizes c.args.self.now.keyed)) (peeks _ _ _ _ _ _ _ _ (omega arith)))

pub returns-clause-same : goal.returns-clause-same
returns-clause-same g c = let t = c.load.ensures.2.0.0 in let l = c.load.ensures.2.0.1 in λ i. (record { view = t.0 i; log = l i; others = c.load.ensures.2.1 i }, t.1 i)
