use Rattle.std.proofs.Common.{arith, sym, ap, ◌∙◌, ℕ, bit_and}
use Rattle.object_lock.proofs.Owner.{clears}
use Rattle.object_lock.proofs.Stored.{stored}
use Rattle.object_lock.proofs.Asks.{asks_clear}
use Rattle.object_lock.proofs.Left.{word_clears}
use mathlib.Core.Option.{none}
use Rattle.atomic_table.specs.Table.{step}
use Rattle.object_lock.proofs.Exact.{clears_exactly}
use Rattle.object_lock.specs.Joining.{own_seat}
use Rattle.object_lock.proofs.Joins.{joined_allows}
use Rattle.object_lock.specs.Logging.{logs_clear}
use Rattle.object_lock.specs.Seats.{sizes}
use Rattle.pointer_word.specs.Words.{keep_plain}
use Rattle.object_lock.proofs.table.LockWords.clear_word.Goals as goal

pub fetch_and-requires : goal.fetch_and-requires
fetch_and-requires g c = let own = c.requires.hold.0.1 in let within = c.requires.table.2 in let sized = c.args.self.now.sized.0 in (c.requires.table.0, omega arith, joined_allows _ _ _ _ _ _ _ _ (λ (m : ℕ). bit_and m keep_plain) (logs_clear g.S.RawStore.honest (step c.args.self.now.table.shared.table_id.slots c.args.obj keep_plain 0 none) (own_seat c.args.seat.now.me)) (c.requires.table.1 ∙ sym (ap sizes c.args.self.now.keyed)) (clears _ _ _ _ (stored g.S.RawStore.fits g.S.RawStore.content c.args.self.now.table.shared.key.cells) _ _ _ _ c.requires.hold.0 c.requires.hold.1))

pub returns-clause-step : goal.returns-clause-step
returns-clause-step g c = let t = c.fetch_and.ensures.2.0.0.0 in (t.0, t.2, asks_clear g.S.RawStore.honest c.args.seat.now.me.0.view t.0 t.2.knew c.args.obj c.requires.hold.0 c.requires.hold.1, word_clears t.0 g.S.RawStore.honest c.args.seat.now.me.0.view t.2.sound t.2.knew c.args.obj c.requires.hold.0)

pub returns-clause-exactly : goal.returns-clause-exactly
returns-clause-exactly g c = let e = clears_exactly _ (step 0 c.args.obj 0 0 none) _ _ _ c.requires.hold.0 c.fetch_and.ensures.2.0.0 in λ i. (e.0 i, e.1 i)

pub returns-clause-logged : goal.returns-clause-logged
returns-clause-logged g c = (c.fetch_and.result, c.fetch_and.ensures.2.0.1)
