use Rattle.std.proofs.Common.{false, arith, ap, sym, ◌∙◌, eqb, ℕ, ◌≡◌, ◌++◌, subst, ne_eqb}
use prog.Atomic.{either}
use Rattle.object_lock.specs.Logging.{logs_mark}
use mathlib.Core.Option.{none}
use Rattle.atomic_table.specs.Table.{step}
use Rattle.object_lock.specs.Seats.{Sizes, sizes}
use Rattle.object_lock.specs.Kept.{slot_keeps, slot_has}
use Rattle.object_lock.proofs.Stored.{allowed_at, stored}
use Rattle.object_lock.proofs.Mover.{marks}
use Rattle.object_lock.proofs.Exact.{marks_exactly, marks_step, here_frames}
use Rattle.object_lock.proofs.Asks.{asks_mark}
use Rattle.object_lock.specs.Logs.{Deed, deed, kept_of}
use Rattle.pointer_word.specs.Words.{Here, face}
use Rattle.pointer_word.specs.Calls.{Marks}
use Rattle.object_lock.proofs.Keeping.{not_kept}
use Rattle.object_lock.specs.Joining.{own_view, own_seat}
use Rattle.object_lock.proofs.table.LockWords.mark_word.Goals as goal

pub compare_exchange-requires : goal.compare_exchange-requires
compare_exchange-requires g c = let sized = c.args.self.now.sized.0 in let keyed = c.args.self.now.keyed in let same = c.requires.table.1 in let so = ap (λ (q : Sizes). q.objects) same in let sf = ap (λ (q : Sizes). q.frames) same in let near = c.requires.low.0 in let inside = c.requires.low.1 in (c.requires.table.0, omega arith, allowed_at g.S.RawStore.fits g.S.RawStore.content g.S.RawStore.honest _ _ (same ∙ sym (ap sizes keyed)) _ _ _ (λ (m : ℕ). either (eqb m c.args.old) c.args.new m) (logs_mark g.S.RawStore.honest (slot_keeps g.S.RawStore.fits g.S.RawStore.content c.args.seat.now.me.0.view.sizes.cells) (slot_has g.S.RawStore.fits c.args.seat.now.me.0.view.sizes.cells) (step c.args.self.now.table.shared.table_id.slots c.args.obj c.args.old c.args.new none) (own_seat c.args.seat.now.me)) (marks (slot_keeps g.S.RawStore.fits g.S.RawStore.content c.args.seat.now.me.0.view.sizes.cells) (slot_has g.S.RawStore.fits c.args.seat.now.me.0.view.sizes.cells) _ _ (stored g.S.RawStore.fits g.S.RawStore.content c.args.seat.now.me.0.view.sizes.cells) _ _ _ _ c.args.frame _ _ (omega arith) (omega arith) c.requires.empty.0 c.requires.words.0 c.requires.words.1))

pub returns-clause-taken : goal.returns-clause-taken
returns-clause-taken g c e =
    let inside = c.requires.low.1 in let small = c.args.self.now.small.1 in
    let t = (marks_exactly g.S.RawStore.honest (slot_keeps g.S.RawStore.fits g.S.RawStore.content c.args.seat.now.me.0.view.sizes.cells) (slot_has g.S.RawStore.fits c.args.seat.now.me.0.view.sizes.cells) (step 0 c.args.obj c.args.old 0 none) (own_view c.args.seat.now.me) c.compare_exchange.result (own_view c.compare_exchange.new.seat.me) c.args.frame c.requires.words.0 (omega arith) c.compare_exchange.ensures.2.0.0).0 e in
    (t.0, t.1, λ i. (t.2 i, t.3 i))

-- the log grows by what is kept of the step
grew : goal.returns-clause-logged
grew g c =
    let t = c.compare_exchange.ensures.2.0.1 in
    subst (λ (f : ℕ). c.compare_exchange.new.seat.me.0.log ≡ c.args.seat.now.me.0.log ++ kept_of (deed c.args.obj c.compare_exchange.result (Marks c.args.seat.now.me.0.view.number c.args.obj f))) (here_frames t.0 c.args.frame (sym t.1 ∙ c.requires.words.0)) t.2

pub returns-clause-logged : goal.returns-clause-logged
returns-clause-logged = grew

pub returns-clause-missed : goal.returns-clause-missed
returns-clause-missed g c e =
    let inside = c.requires.low.1 in let small = c.args.self.now.small.1 in
    let t = (marks_exactly g.S.RawStore.honest (slot_keeps g.S.RawStore.fits g.S.RawStore.content c.args.seat.now.me.0.view.sizes.cells) (slot_has g.S.RawStore.fits c.args.seat.now.me.0.view.sizes.cells) (step 0 c.args.obj c.args.old 0 none) (own_view c.args.seat.now.me) c.compare_exchange.result (own_view c.compare_exchange.new.seat.me) c.args.frame c.requires.words.0 (omega arith) c.compare_exchange.ensures.2.0.0).1 e in
    let d : Deed = deed c.args.obj c.compare_exchange.result (Marks c.args.seat.now.me.0.view.number c.args.obj c.args.frame) in
    let same = not_kept c.args.seat.now.me.0.log c.compare_exchange.new.seat.me.0.log d (ne_eqb c.compare_exchange.result (face (Here c.args.frame false) 0) (λ h. e (h ∙ sym c.requires.words.0))) (grew g c) in
    λ i. (record { view = t.0 i; log = same i; others = c.compare_exchange.ensures.2.1 i }, t.1 i)

pub returns-clause-step : goal.returns-clause-step
returns-clause-step g c =
    let t = marks_step g.S.RawStore.honest (slot_keeps g.S.RawStore.fits g.S.RawStore.content c.args.seat.now.me.0.view.sizes.cells) (slot_has g.S.RawStore.fits c.args.seat.now.me.0.view.sizes.cells) (step 0 c.args.obj c.args.old 0 none) (own_view c.args.seat.now.me) c.compare_exchange.result (own_view c.compare_exchange.new.seat.me) c.args.frame c.requires.words.0 c.compare_exchange.ensures.2.0.0 in
    (t.0, t.1, asks_mark g.S.RawStore.honest c.args.seat.now.me.0.view t.0 t.1.knew c.args.obj c.args.frame c.requires.empty.0 c.requires.empty.1 c.requires.empty.2, t.2)
