use Rattle.std.proofs.Common.{arith, ap, sym, ◌∙◌, ◌≡◌, ap₂, eqb, eq-eqb, ℕ, ne_eqb}
use prog.Atomic.{either}
use Rattle.object_lock.specs.Logging.{logs_begin_any}
use mathlib.Core.Option.{none}
use Rattle.atomic_table.specs.Table.{step}
use Rattle.object_lock.specs.Seats.{Sizes, sizes}
use Rattle.object_lock.specs.Kept.{slot_keeps, slot_has}
use Rattle.object_lock.proofs.Either.{begins_any}
use Rattle.object_lock.proofs.Exact.{begins_any_exactly, begins_any_step}
use Rattle.object_lock.proofs.Stored.{allowed_at}
use Rattle.object_lock.proofs.Asks.{asks_try}
use Rattle.std.specs.Prelude.{◌==◌, ◌&&◌, ◌||◌, false, not, Bool}
use Rattle.pointer_word.specs.Calls.{Begins}
use Rattle.object_lock.specs.Logs.{Deed, deed, is_kept, tells_frame}
use Rattle.object_lock.proofs.Keeping.{not_kept}
use Rattle.object_lock.specs.Joining.{own_view, own_seat}
use Rattle.object_lock.proofs.table.LockWords.begin_word.Goals as goal

pub compare_exchange-requires : goal.compare_exchange-requires
compare_exchange-requires g c = let sized = c.args.self.now.sized.0 in let keyed = c.args.self.now.keyed in let same = c.requires.table.1 in let so = ap (λ (q : Sizes). q.objects) same in let sf = ap (λ (q : Sizes). q.frames) same in
    let near = c.requires.low.0 in (c.requires.table.0, omega arith, allowed_at g.S.RawStore.fits g.S.RawStore.content g.S.RawStore.honest _ _ (same ∙ sym (ap sizes keyed)) _ _ _ (λ (m : ℕ). either (eqb m c.args.count) c.args.new m) (logs_begin_any g.S.RawStore.honest (slot_keeps g.S.RawStore.fits g.S.RawStore.content c.args.seat.now.me.0.view.sizes.cells) (slot_has g.S.RawStore.fits c.args.seat.now.me.0.view.sizes.cells) (step c.args.self.now.table.shared.table_id.slots c.args.obj c.args.count c.args.new none) (own_seat c.args.seat.now.me)) (begins_any (slot_keeps g.S.RawStore.fits g.S.RawStore.content c.args.seat.now.me.0.view.sizes.cells) (slot_has g.S.RawStore.fits c.args.seat.now.me.0.view.sizes.cells) _ _ _ _ _ _ _ _ (omega arith) (λ l. let h = c.requires.hold l in let e = h.1 in (h.0, omega arith)) c.requires.low.1 c.requires.empty.0 c.requires.words))

pub returns-clause-taken : goal.returns-clause-taken
returns-clause-taken g c e =
    let t = (begins_any_exactly g.S.RawStore.honest (slot_keeps g.S.RawStore.fits g.S.RawStore.content c.args.seat.now.me.0.view.sizes.cells) (slot_has g.S.RawStore.fits c.args.seat.now.me.0.view.sizes.cells) (step 0 c.args.obj c.args.count 0 none) (own_view c.args.seat.now.me) c.compare_exchange.result (own_view c.compare_exchange.new.seat.me) (λ l. (c.requires.hold l).0) c.requires.low.1 c.compare_exchange.ensures.2.0.0).0 e in
    (t.0, t.1, t.2, λ i. (t.3 i, t.4 i))

pub returns-clause-missed : goal.returns-clause-missed
returns-clause-missed g c e =
    let t = (begins_any_exactly g.S.RawStore.honest (slot_keeps g.S.RawStore.fits g.S.RawStore.content c.args.seat.now.me.0.view.sizes.cells) (slot_has g.S.RawStore.fits c.args.seat.now.me.0.view.sizes.cells) (step 0 c.args.obj c.args.count 0 none) (own_view c.args.seat.now.me) c.compare_exchange.result (own_view c.compare_exchange.new.seat.me) (λ l. (c.requires.hold l).0) c.requires.low.1 c.compare_exchange.ensures.2.0.0).1 e in
    let d : Deed = deed c.args.obj c.compare_exchange.result (Begins c.args.seat.now.me.0.view.number c.args.obj c.args.count (not (c.args.count == 0))) in
    let miss : (c.compare_exchange.result == c.args.count) ≡ false = ne_eqb c.compare_exchange.result c.args.count e in (
      t.0,
      t.1,
      t.2,
      (λ l. let q = t.3 l in (q.0, λ i. (q.1 i, t.5 i))),
      (λ z.
          let q = t.4 z in
          let none : is_kept d.found d.calls ≡ false = ap₂ (λ (a b : Bool). a || (b && tells_frame c.compare_exchange.result)) miss (ap not (eq-eqb c.args.count 0 z)) in
          let same = not_kept c.args.seat.now.me.0.log c.compare_exchange.new.seat.me.0.log d none c.compare_exchange.ensures.2.0.1 in
          λ i. (record { view = q i; log = same i; others = c.compare_exchange.ensures.2.1 i }, t.5 i)),
    )

pub returns-clause-step : goal.returns-clause-step
returns-clause-step g c =
    let t = begins_any_step g.S.RawStore.honest (slot_keeps g.S.RawStore.fits g.S.RawStore.content c.args.seat.now.me.0.view.sizes.cells) (slot_has g.S.RawStore.fits c.args.seat.now.me.0.view.sizes.cells) (step 0 c.args.obj c.args.count 0 none) (own_view c.args.seat.now.me) c.compare_exchange.result (own_view c.compare_exchange.new.seat.me) c.compare_exchange.ensures.2.0.0 in
    (t.0, t.1, asks_try g.S.RawStore.honest c.args.seat.now.me.0.view t.0 t.1.knew c.args.obj c.args.count c.requires.hold c.requires.empty, t.2)

pub returns-clause-logged : goal.returns-clause-logged
returns-clause-logged g c = c.compare_exchange.ensures.2.0.1
