use Rattle.std.proofs.Common.{arith, refl, sym, ap, ◌∙◌, ℕ, ◌+◌, ◌%◌}
use mathlib.Core.Option.{none}
use Rattle.atomic_table.specs.Table.{step}
use Rattle.object_lock.proofs.Owner.{opens}
use Rattle.object_lock.proofs.Exact.{opens_exactly}
use Rattle.object_lock.proofs.Asks.{asks_open}
use Rattle.object_lock.specs.Joining.{own_seat}
use Rattle.object_lock.proofs.Joins.{joined_allows}
use Rattle.object_lock.specs.Logging.{logs_open}
use Rattle.object_lock.specs.Seats.{sizes}
use Rattle.object_lock.proofs.table.LockWords.open_word.Goals as goal

pub fetch_add-requires : goal.fetch_add-requires
fetch_add-requires g c = let own = c.requires.hold.0.1 in let within = c.requires.table.2 in let sized = c.args.self.now.sized.0 in (c.requires.table.0, omega arith, joined_allows _ _ _ _ _ _ _ _ (λ (m : ℕ). (m + 1) % 18446744073709551616) (logs_open g.S.RawStore.honest (step c.args.self.now.table.shared.table_id.slots c.args.obj 1 0 none) (own_seat c.args.seat.now.me)) (c.requires.table.1 ∙ sym (ap sizes c.args.self.now.keyed)) (opens _ _ _ _ _ _ _ _ c.requires.hold.0 c.requires.hold.1))

pub returns-clause-exactly : goal.returns-clause-exactly
returns-clause-exactly g c = let e = opens_exactly _ (step 0 c.args.obj 0 0 none) _ _ _ c.requires.hold.0 c.fetch_add.ensures.2.0.0 in (e.0, e.1, e.2, λ i. (e.3 i, e.4 i))

pub returns-clause-step : goal.returns-clause-step
returns-clause-step g c = let t = c.fetch_add.ensures.2.0.0.0 in (t.0, t.2, asks_open g.S.RawStore.honest c.args.seat.now.me.0.view t.0 t.2.knew c.args.obj c.requires.hold.0 c.requires.hold.1, t.1)

pub returns-clause-logged : goal.returns-clause-logged
returns-clause-logged g c = (c.fetch_add.result, c.fetch_add.ensures.2.0.1, refl)
