use Rattle.std.proofs.Common.{arith, sym, ap, ◌∙◌, ℕ, suc, ◌≡◌, ◌++◌, subst, ne_eqb, eqb}
use Rattle.pointer_word.specs.Hands.{or_zero}
use Rattle.object_lock.specs.declared.shape.Shape.{Shape}
use Rattle.object_lock.specs.Seats.{Sizes, frame_word, sizes}
use Rattle.object_lock.proofs.Frames.{claims}
use mathlib.Core.Option.{none}
use Rattle.atomic_table.specs.Table.{step}
use Rattle.object_lock.proofs.Exact.{claims_step, claims_exactly, frame_is}
use Rattle.object_lock.proofs.Asks.{asks_claim}
use Rattle.object_lock.specs.Logs.{Deed, deed, kept_of}
use Rattle.pointer_word.specs.Calls.{Claims}
use Rattle.object_lock.proofs.Keeping.{not_kept}
use Rattle.object_lock.specs.Joining.{own_view, own_seat}
use Rattle.object_lock.proofs.Joins.{joined_allows}
use Rattle.object_lock.specs.Logging.{logs_claim}
use prog.Atomic.{either}
use Rattle.object_lock.proofs.table.LockWords.claim_word.Goals as goal

pub compare_exchange-requires : goal.compare_exchange-requires
compare_exchange-requires g c = let sized = c.args.self.now.sized.0 in let keyed = c.args.self.now.keyed in let zo = ap (λ (q : Shape). q.objects) keyed in let zf = ap (λ (q : Shape). q.frames) keyed in let same = c.requires.table.1 in let at = c.frame_at-word.ensures.at ∙ ap (λ (q : Sizes). frame_word q c.args.frame) (sym same) in let fs = ap (λ (q : Sizes). q.frames) same in let l = c.requires.low in
    (c.requires.table.0, c.frame_at-word.ensures.inside, joined_allows _ _ _ _ _ _ _ _ (λ (m : ℕ). either (eqb m 0) c.args.new m) (logs_claim g.S.RawStore.honest (step c.args.self.now.table.shared.table_id.slots c.frame_at-word.result 0 c.args.new none) (own_seat c.args.seat.now.me)) (c.requires.table.1 ∙ sym (ap sizes c.args.self.now.keyed)) (claims _ _ _ _ _ _ _ _ c.args.frame c.args.obj _ at (omega arith) c.requires.hands.0 c.requires.hands.2.0 (c.requires.words ∙ ap (λ (q : ℕ). suc q) (sym (ap or_zero c.requires.hands.0)))))

pub returns-clause-step : goal.returns-clause-step
returns-clause-step g c =
    let v = c.args.seat.now.me.0.view in let same = c.requires.table.1 in
    let s = claims_step g.S.RawStore.honest (step 0 c.frame_at-word.result 0 c.args.new none) (own_view c.args.seat.now.me) c.compare_exchange.result (own_view c.compare_exchange.new.seat.me) c.args.obj c.args.frame
    (c.frame_at-word.ensures.at ∙ ap (λ (q : Sizes). frame_word q c.args.frame) (sym same)) c.requires.hands.0 c.compare_exchange.ensures.2.0.0 in
    (s.0, s.1, asks_claim g.S.RawStore.honest v s.0 s.1.knew c.args.obj c.args.frame c.requires.hands.0 c.requires.hands.1 c.requires.hands.2, s.2)

-- the log grows by what is kept of the step
grew : goal.returns-clause-logged
grew g c =
    let v = c.args.seat.now.me.0.view in let at = c.frame_at-word.ensures.at in let at' = at ∙ ap (λ (q : Sizes). frame_word q c.args.frame) (sym c.requires.table.1) in
    let object : or_zero v.hand.bringing ≡ c.args.obj = ap or_zero c.requires.hands.0 in let frame = frame_is v c.frame_at-word.result c.args.frame at' in
    subst (λ (q : ℕ × ℕ × ℕ). c.compare_exchange.new.seat.me.0.log ≡ c.args.seat.now.me.0.log ++ kept_of (deed q.0 c.compare_exchange.result (Claims v.number q.1 q.2))) (λ i. (at i, object i, frame i)) c.compare_exchange.ensures.2.0.1

pub returns-clause-logged : goal.returns-clause-logged
returns-clause-logged = grew

pub returns-clause-claimed : goal.returns-clause-claimed
returns-clause-claimed g c e =
    let t = claims_exactly g.S.RawStore.honest (step 0 c.frame_at-word.result 0 c.args.new none) (own_view c.args.seat.now.me) c.compare_exchange.result (own_view c.compare_exchange.new.seat.me) c.args.frame (c.frame_at-word.ensures.at ∙ ap (λ (q : Sizes). frame_word q c.args.frame) (sym c.requires.table.1)) c.compare_exchange.ensures.2.0.0 in
    λ i. (t.0 e i, t.2 i)

pub returns-clause-missed : goal.returns-clause-missed
returns-clause-missed g c e =
    let t = claims_exactly g.S.RawStore.honest (step 0 c.frame_at-word.result 0 c.args.new none) (own_view c.args.seat.now.me) c.compare_exchange.result (own_view c.compare_exchange.new.seat.me) c.args.frame (c.frame_at-word.ensures.at ∙ ap (λ (q : Sizes). frame_word q c.args.frame) (sym c.requires.table.1)) c.compare_exchange.ensures.2.0.0 in
    let d : Deed = deed (frame_word (sizes c.args.self.now.shape) c.args.frame) c.compare_exchange.result (Claims c.args.seat.now.me.0.view.number c.args.obj c.args.frame) in
    let same = not_kept c.args.seat.now.me.0.log c.compare_exchange.new.seat.me.0.log d (ne_eqb c.compare_exchange.result 0 e) (grew g c) in
    λ i. (record { view = t.1 e i; log = same i; others = c.compare_exchange.ensures.2.1 i }, t.2 i)
