use Rattle.std.proofs.Common.{true, arith, ap, ◌≡◌, ◌++◌, ◌∙◌, sym, subst, ne_eqb, ℕ, eqb}
use mathlib.Core.Option.{none}
use Rattle.atomic_table.specs.Table.{step}
use Rattle.object_lock.specs.declared.shape.Shape.{Shape}
use Rattle.object_lock.proofs.Clean.{leaves, leaves_exactly, leaves_step, clean_frames}
use Rattle.object_lock.proofs.Asks.{asks_leave}
use Rattle.object_lock.specs.Logs.{Deed, deed, kept_of}
use Rattle.pointer_word.specs.Words.{Here, face}
use Rattle.pointer_word.specs.Calls.{Leaves}
use Rattle.object_lock.proofs.Keeping.{not_kept}
use Rattle.object_lock.specs.Joining.{own_view, own_seat}
use Rattle.object_lock.proofs.Joins.{joined_allows}
use Rattle.object_lock.specs.Logging.{logs_leave}
use Rattle.object_lock.specs.Seats.{sizes}
use prog.Atomic.{either}
use Rattle.object_lock.proofs.table.LockWords.leave_word.Goals as goal

pub compare_exchange-requires : goal.compare_exchange-requires
compare_exchange-requires g c = let sized = c.args.self.now.sized.0 in let keyed = c.args.self.now.keyed in let zo = ap (λ (q : Shape). q.objects) keyed in let zf = ap (λ (q : Shape). q.frames) keyed in let same = c.requires.table.1 in let near = c.requires.low.0 in let inside = c.requires.low.1 in (c.requires.table.0, omega arith, joined_allows _ _ _ _ _ _ _ _ (λ (m : ℕ). either (eqb m c.args.old) 0 m) (logs_leave g.S.RawStore.honest (step c.args.self.now.table.shared.table_id.slots c.args.obj c.args.old 0 none) (own_seat c.args.seat.now.me)) (c.requires.table.1 ∙ sym (ap sizes c.args.self.now.keyed)) (leaves _ _ _ _ _ _ _ _ c.args.frame _ (omega arith) (omega arith) c.requires.empty.1.1 c.requires.words))

pub returns-clause-freed : goal.returns-clause-freed
returns-clause-freed g c e =
    let inside = c.requires.low.1 in let small = c.args.self.now.small.1 in
    let t = leaves_exactly g.S.RawStore.honest (step 0 c.args.obj c.args.old 0 none) (own_view c.args.seat.now.me) c.compare_exchange.result (own_view c.compare_exchange.new.seat.me) c.args.frame c.requires.words (omega arith) c.compare_exchange.ensures.2.0.0 in
    λ i. (t.0 e i, t.2 i)

-- the log grows by what is kept of the step
grew : goal.returns-clause-logged
grew g c =
    let t = c.compare_exchange.ensures.2.0.1 in
    subst (λ (f : ℕ). c.compare_exchange.new.seat.me.0.log ≡ c.args.seat.now.me.0.log ++ kept_of (deed c.args.obj c.compare_exchange.result (Leaves c.args.seat.now.me.0.view.number c.args.obj f))) (clean_frames t.0 c.args.frame (sym t.1 ∙ c.requires.words)) t.2

pub returns-clause-logged : goal.returns-clause-logged
returns-clause-logged = grew

pub returns-clause-missed : goal.returns-clause-missed
returns-clause-missed g c e =
    let inside = c.requires.low.1 in let small = c.args.self.now.small.1 in
    let t = leaves_exactly g.S.RawStore.honest (step 0 c.args.obj c.args.old 0 none) (own_view c.args.seat.now.me) c.compare_exchange.result (own_view c.compare_exchange.new.seat.me) c.args.frame c.requires.words (omega arith) c.compare_exchange.ensures.2.0.0 in
    let d : Deed = deed c.args.obj c.compare_exchange.result (Leaves c.args.seat.now.me.0.view.number c.args.obj c.args.frame) in
    let same = not_kept c.args.seat.now.me.0.log c.compare_exchange.new.seat.me.0.log d (ne_eqb c.compare_exchange.result (face (Here c.args.frame true) 0) (λ h. e (h ∙ sym c.requires.words))) (grew g c) in
    λ i. (record { view = t.1 e i; log = same i; others = c.compare_exchange.ensures.2.1 i }, t.2 i)

pub returns-clause-step : goal.returns-clause-step
returns-clause-step g c =
    let t = leaves_step g.S.RawStore.honest (step 0 c.args.obj c.args.old 0 none) (own_view c.args.seat.now.me) c.compare_exchange.result (own_view c.compare_exchange.new.seat.me) c.args.frame c.requires.words c.compare_exchange.ensures.2.0.0 in
    (t.0, t.1, asks_leave g.S.RawStore.honest c.args.seat.now.me.0.view t.0 t.1.knew c.args.obj c.args.frame c.requires.empty.0 c.requires.empty.1 c.requires.empty.2, t.2)
