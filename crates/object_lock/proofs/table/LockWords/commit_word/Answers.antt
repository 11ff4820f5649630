use Rattle.std.proofs.Common.{arith, subst, sym, ◌≡◌, ◌<◌, ℕ, ap, ◌∙◌, eqb}
use prog.Atomic.{either}
use Rattle.object_lock.specs.Logging.{logs_commit}
use Rattle.object_lock.specs.Kept.{slot_keeps, slot_has}
use Rattle.std.specs.Prelude.{Some}
use mathlib.Core.Option.{none}
use Rattle.atomic_table.specs.Table.{step}
use Rattle.pointer_word.specs.Hands.{seen, listed}
use Rattle.object_lock.specs.Seats.{Sizes, sizes}
use Rattle.object_lock.proofs.Mover.{commits}
use Rattle.object_lock.proofs.Exact.{commits_step, commits_exactly}
use Rattle.object_lock.proofs.Stored.{allowed_at, whole}
use Rattle.object_lock.proofs.Asks.{asks_commit}
use Rattle.object_lock.specs.Logs.{AddsTry}
use Rattle.object_lock.specs.Joining.{own_view, own_seat}
use Rattle.object_lock.proofs.table.LockWords.commit_word.Goals as goal

pub compare_exchange-requires : goal.compare_exchange-requires
compare_exchange-requires g c = let sized = c.args.self.now.sized.0 in let near = c.requires.hands.0 in let q = c.requires.copied in let keyed = c.args.self.now.keyed in let same = c.requires.table.1 in
    let copied = subst (λ (y : Sizes). (i : ℕ) → i < y.cells → seen c.args.seat.now.me.0.view.hand.copied i ≡ Some (listed q.1 i)) (sym same) q.4 in
    let u = whole g.S.RawStore.fits g.S.RawStore.content c.args.seat.now.me.0.view.sizes.cells q.0 c.args.obj q.1 q.3 in
    (c.requires.table.0, omega arith, allowed_at g.S.RawStore.fits g.S.RawStore.content g.S.RawStore.honest _ _ (same ∙ sym (ap sizes keyed)) _ _ _ (λ (m : ℕ). either (eqb m c.args.old) 0 m) (logs_commit g.S.RawStore.honest c.args.seat.now.me.0.view.sizes.cells (step c.args.self.now.table.shared.table_id.slots c.args.obj c.args.old 0 none) (own_seat c.args.seat.now.me)) (commits (slot_keeps g.S.RawStore.fits g.S.RawStore.content c.args.seat.now.me.0.view.sizes.cells) (slot_has g.S.RawStore.fits c.args.seat.now.me.0.view.sizes.cells) _ _ _ _ _ _ _ q.0 u.0 c.requires.hands.1 c.requires.hands.2.1 q.2 u.1 u.2 (λ i l. copied i l ∙ ap Some (sym (u.3 i l))) c.requires.words))

pub returns-clause-step : goal.returns-clause-step
returns-clause-step g c =
    let t = commits_step g.S.RawStore.honest (step 0 c.args.obj c.args.old 0 none) (own_view c.args.seat.now.me) c.compare_exchange.result (own_view c.compare_exchange.new.seat.me) c.compare_exchange.ensures.2.0.0 in
    (t.0, t.1, asks_commit g.S.RawStore.honest c.args.seat.now.me.0.view t.0 t.1.knew c.args.obj c.args.seat.now.me.0.view.hand.source c.requires.hands.2.0 t.1.may, t.2)

pub returns-clause-logged : goal.returns-clause-logged
returns-clause-logged g c =
    subst (λ (n : ℕ). AddsTry n c.args.seat.now.me.0.view c.args.seat.now.me.0.log c.compare_exchange.new.seat.me.0.log c.args.obj c.compare_exchange.result) (ap (λ (q : Sizes). q.cells) c.requires.table.1) c.compare_exchange.ensures.2.0.1

pub returns-clause-gave : goal.returns-clause-gave
returns-clause-gave g c e =
    let t = commits_exactly g.S.RawStore.honest (step 0 c.args.obj c.args.old 0 none) (own_view c.args.seat.now.me) c.compare_exchange.result (own_view c.compare_exchange.new.seat.me) c.requires.words c.requires.hands.3 c.requires.hands.4 c.compare_exchange.ensures.2.0.0 in
    let s = t.0 e in λ i. (s.0 i, s.1 i)

pub returns-clause-missed : goal.returns-clause-missed
returns-clause-missed g c e =
    let t = commits_exactly g.S.RawStore.honest (step 0 c.args.obj c.args.old 0 none) (own_view c.args.seat.now.me) c.compare_exchange.result (own_view c.compare_exchange.new.seat.me) c.requires.words c.requires.hands.3 c.requires.hands.4 c.compare_exchange.ensures.2.0.0 in
    let s = t.1 e in λ i. (s.0 i, s.1 i)
