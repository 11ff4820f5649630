use Rattle.std.proofs.Common.{arith, subst, sym, ap, ◌∙◌, ◌+◌, ◌%◌, ℕ, ◌≡◌, ◌++◌, [], ◌∷◌}
use Rattle.object_lock.specs.Logging.{logs_arrive_any}
use mathlib.Core.Option.{none}
use Rattle.atomic_table.specs.Table.{step}
use Rattle.pointer_word.specs.Calls.{Filled, Arrives}
use Rattle.object_lock.specs.Seats.{Sizes, sizes}
use Rattle.object_lock.specs.Kept.{slot_keeps, slot_has}
use Rattle.object_lock.proofs.Either.{arrives_any}
use Rattle.object_lock.proofs.Arrived.{arrives_kept, arrives_notes}
use Rattle.object_lock.proofs.Exact.{arrives_exactly, arrives_step, brings_exactly, brings_step}
use Rattle.object_lock.proofs.Stored.{allowed_at}
use Rattle.object_lock.proofs.Asks.{asks_arrive, asks_bring}
use Rattle.object_lock.proofs.Left.{word_arrives, word_brings}
use Rattle.object_lock.specs.Logs.{deed}
use Rattle.std.specs.Prelude.{true, false}
use Rattle.pointer_word.specs.Hands.{or_zero}
use Rattle.object_lock.specs.Joining.{own_view, own_seat}
use Rattle.object_lock.proofs.table.LockWords.arrive_word.Goals as goal

pub fetch_add-requires : goal.fetch_add-requires
fetch_add-requires g c = let sized = c.args.self.now.sized.0 in let keyed = c.args.self.now.keyed in let same = c.requires.table.1 in let so = ap (λ (q : Sizes). q.objects) same in let sf = ap (λ (q : Sizes). q.frames) same in let near = c.requires.hands.0 in let q = c.requires.hands.3 in
    let filled = subst (λ (q : Sizes). Filled _ q.cells c.args.seat.now.me.0.view.hand) (sym same) c.requires.filled in (c.requires.table.0, omega arith, allowed_at g.S.RawStore.fits g.S.RawStore.content g.S.RawStore.honest _ _ (same ∙ sym (ap sizes keyed)) _ _ _ (λ (m : ℕ). (m + c.args.by) % 18446744073709551616) (logs_arrive_any g.S.RawStore.honest (slot_keeps g.S.RawStore.fits g.S.RawStore.content c.args.seat.now.me.0.view.sizes.cells) (slot_has g.S.RawStore.fits c.args.seat.now.me.0.view.sizes.cells) (step c.args.self.now.table.shared.table_id.slots c.args.obj c.args.by 0 none) (own_seat c.args.seat.now.me)) (arrives_any (slot_keeps g.S.RawStore.fits g.S.RawStore.content c.args.seat.now.me.0.view.sizes.cells) (slot_has g.S.RawStore.fits c.args.seat.now.me.0.view.sizes.cells) _ _ _ _ _ _ c.args.frame _ q.0 c.requires.hands.1 c.requires.hands.2 filled q.1 q.2 c.requires.words))

pub returns-clause-kept : goal.returns-clause-kept
returns-clause-kept g c = arrives_kept g.S.RawStore.honest (slot_keeps g.S.RawStore.fits g.S.RawStore.content c.args.seat.now.me.0.view.sizes.cells) (slot_has g.S.RawStore.fits c.args.seat.now.me.0.view.sizes.cells) (step 0 c.args.obj c.args.by 0 none) (own_view c.args.seat.now.me) c.fetch_add.result (own_view c.fetch_add.new.seat.me) c.args.frame c.requires.hands.2 c.fetch_add.ensures.2.0.0

pub returns-clause-notes : goal.returns-clause-notes
returns-clause-notes g c = arrives_notes g.S.RawStore.honest (slot_keeps g.S.RawStore.fits g.S.RawStore.content c.args.seat.now.me.0.view.sizes.cells) (slot_has g.S.RawStore.fits c.args.seat.now.me.0.view.sizes.cells) (step 0 c.args.obj c.args.by 0 none) (own_view c.args.seat.now.me) c.fetch_add.result (own_view c.fetch_add.new.seat.me) c.args.frame c.requires.hands.2 c.fetch_add.ensures.2.0.0

pub returns-clause-held : goal.returns-clause-held
returns-clause-held g c h =
    let t = arrives_exactly g.S.RawStore.honest (slot_keeps g.S.RawStore.fits g.S.RawStore.content c.args.seat.now.me.0.view.sizes.cells) (slot_has g.S.RawStore.fits c.args.seat.now.me.0.view.sizes.cells) (step 0 c.args.obj c.args.by 0 none) (own_view c.args.seat.now.me) c.fetch_add.result (own_view c.fetch_add.new.seat.me) c.args.frame h.0 c.requires.hands.2 (c.fetch_add.ensures.2.0.0.0 h) in
    λ i. (t.0 i, t.1 i)

pub returns-clause-unheld : goal.returns-clause-unheld
returns-clause-unheld g c h =
    let t = brings_exactly g.S.RawStore.honest (step 0 c.args.obj c.args.by 0 none) (own_view c.args.seat.now.me) c.fetch_add.result (own_view c.fetch_add.new.seat.me) (c.fetch_add.ensures.2.0.0.1 h) in
    λ i. (t.0 i, t.1 i)

pub returns-clause-step : goal.returns-clause-step
returns-clause-step g c h =
    let s = arrives_step g.S.RawStore.honest (slot_keeps g.S.RawStore.fits g.S.RawStore.content c.args.seat.now.me.0.view.sizes.cells) (slot_has g.S.RawStore.fits c.args.seat.now.me.0.view.sizes.cells) (step 0 c.args.obj c.args.by 0 none) (own_view c.args.seat.now.me) c.fetch_add.result (own_view c.fetch_add.new.seat.me) c.args.frame c.requires.hands.2 (c.fetch_add.ensures.2.0.0.0 h) in
    (s.0, s.1, asks_arrive g.S.RawStore.honest c.args.seat.now.me.0.view s.0 s.1.knew c.args.obj c.args.frame h.0 s.1.may, word_arrives s.0 g.S.RawStore.honest c.args.seat.now.me.0.view s.1.sound s.1.knew c.args.obj h.0 c.args.seat.now.me.0.view.number c.args.frame)

pub returns-clause-unheld_step : goal.returns-clause-unheld_step
returns-clause-unheld_step g c h =
    let s = brings_step g.S.RawStore.honest (step 0 c.args.obj c.args.by 0 none) (own_view c.args.seat.now.me) c.fetch_add.result (own_view c.fetch_add.new.seat.me) c.args.frame c.requires.hands.2 (c.fetch_add.ensures.2.0.0.1 h) in
    (s.0, s.1, asks_bring g.S.RawStore.honest c.args.seat.now.me.0.view s.0 s.1.knew c.args.obj c.args.frame s.1.may, word_brings s.0 c.args.seat.now.me.0.view.number c.args.obj c.args.frame)

pub returns-clause-held_log : goal.returns-clause-held_log
returns-clause-held_log g c h =
    (c.fetch_add.result, subst (λ (f : ℕ). c.fetch_add.new.seat.me.0.log ≡ c.args.seat.now.me.0.log ++ deed c.args.obj c.fetch_add.result (Arrives c.args.seat.now.me.0.view.number c.args.obj f true) ∷ []) (ap or_zero c.requires.hands.2) (c.fetch_add.ensures.2.0.1 h))

pub returns-clause-unheld_log : goal.returns-clause-unheld_log
returns-clause-unheld_log g c h =
    (c.fetch_add.result, subst (λ (f : ℕ). c.fetch_add.new.seat.me.0.log ≡ c.args.seat.now.me.0.log ++ deed c.args.obj c.fetch_add.result (Arrives c.args.seat.now.me.0.view.number c.args.obj f false) ∷ []) (ap or_zero c.requires.hands.2) (c.fetch_add.ensures.2.0.2 h))
