use Rattle.std.proofs.Common.{arith, ap, sym, ◌∙◌, bit_and, ℕ}
use Rattle.pointer_word.specs.Words.{keep_here}
use Rattle.object_lock.specs.Logging.{logs_abort}
use Rattle.object_lock.specs.Kept.{slot_keeps, slot_has}
use mathlib.Core.Option.{none}
use Rattle.atomic_table.specs.Table.{step}
use Rattle.object_lock.specs.Seats.{Sizes, sizes}
use Rattle.object_lock.proofs.Mover.{aborts}
use Rattle.object_lock.proofs.Stored.{allowed_at}
use Rattle.object_lock.proofs.Asks.{asks_abort}
use Rattle.object_lock.proofs.Left.{word_aborts}
use Rattle.object_lock.proofs.Exact.{aborts_exactly}
use Rattle.object_lock.specs.Joining.{own_view, own_seat}
use Rattle.object_lock.proofs.table.LockWords.abort_word.Goals as goal

pub fetch_and-requires : goal.fetch_and-requires
fetch_and-requires g c = let sized = c.args.self.now.sized.0 in let keyed = c.args.self.now.keyed in let same = c.requires.table.1 in let so = ap (λ (q : Sizes). q.objects) same in let sf = ap (λ (q : Sizes). q.frames) same in let near = c.requires.hands.0 in let q = c.requires.hands.2 in (c.requires.table.0, omega arith, allowed_at g.S.RawStore.fits g.S.RawStore.content g.S.RawStore.honest _ _ (same ∙ sym (ap sizes keyed)) _ _ _ (λ (m : ℕ). bit_and m keep_here) (logs_abort g.S.RawStore.honest (step c.args.self.now.table.shared.table_id.slots c.args.obj keep_here 0 none) (own_seat c.args.seat.now.me)) (aborts (slot_keeps g.S.RawStore.fits g.S.RawStore.content c.args.seat.now.me.0.view.sizes.cells) (slot_has g.S.RawStore.fits c.args.seat.now.me.0.view.sizes.cells) _ _ _ _ _ _ q.0 c.requires.hands.1 q.1 q.2))

pub returns-clause-step : goal.returns-clause-step
returns-clause-step g c = let t = c.fetch_and.ensures.2.0.0.0 in (t.0, t.2, asks_abort g.S.RawStore.honest c.args.seat.now.me.0.view t.0 t.2.knew c.args.obj c.args.seat.now.me.0.view.hand.source t.2.may, word_aborts t.0 c.args.seat.now.me.0.view.number c.args.obj c.args.seat.now.me.0.view.hand.source)

pub returns-clause-exactly : goal.returns-clause-exactly
returns-clause-exactly g c = let e = aborts_exactly g.S.RawStore.honest (step 0 c.args.obj 0 0 none) (own_view c.args.seat.now.me) _ (own_view c.fetch_and.new.seat.me) c.fetch_and.ensures.2.0.0 in λ i. (e.0 i, e.1 i)

pub returns-clause-logged : goal.returns-clause-logged
returns-clause-logged g c = (c.fetch_and.result, c.fetch_and.ensures.2.0.1)
