use Rattle.std.proofs.Common.{sym, ap, ◌∙◌, ◌≡◌, ◌++◌, [], ◌∷◌, subst, ℕ}
use mathlib.Core.Option.{none}
use Rattle.std.specs.Prelude.{Some}
use Rattle.atomic_table.specs.Table.{step}
use Rattle.object_lock.specs.Seats.{Sizes, frame_word, sizes}
use Rattle.object_lock.proofs.Frames.{gives_up}
use Rattle.object_lock.proofs.Exact.{frame_is, unclaims_exactly, unclaims_step, releases_exactly, releases_step}
use Rattle.object_lock.proofs.Asks.{asks_unclaim, asks_release}
use Rattle.object_lock.proofs.Left.{free_releases, free_unclaims}
use Rattle.object_lock.specs.Logs.{deed}
use Rattle.pointer_word.specs.Calls.{Unclaims, Releases}
use Rattle.object_lock.specs.Joining.{own_view, own_seat}
use Rattle.object_lock.proofs.Joins.{joined_allows}
use Rattle.object_lock.specs.Logging.{logs_give}
use Rattle.object_lock.proofs.table.LockWords.release_word.Goals as goal

pub store-requires : goal.store-requires
store-requires g c = let same = c.requires.table.1 in let at = c.frame_at-word.ensures.at ∙ ap (λ (q : Sizes). frame_word q c.args.frame) (sym same) in (c.requires.table.0, c.frame_at-word.ensures.inside, joined_allows _ _ _ _ _ _ _ _ (λ (_ : ℕ). 0) (λ _. logs_give g.S.RawStore.honest (step c.args.self.now.table.shared.table_id.slots c.frame_at-word.result 0 0 none) (own_seat c.args.seat.now.me) 0) (c.requires.table.1 ∙ sym (ap sizes c.args.self.now.keyed)) (gives_up _ _ _ _ _ _ _ _ c.args.frame at c.requires.hands))

pub returns-clause-unclaimed : goal.returns-clause-unclaimed
returns-clause-unclaimed g c e =
    let v = c.args.seat.now.me.0.view in let at = c.frame_at-word.ensures.at ∙ ap (λ (q : Sizes). frame_word q c.args.frame) (sym c.requires.table.1) in
    let t = unclaims_exactly g.S.RawStore.honest (step 0 c.frame_at-word.result 0 0 none) (own_view c.args.seat.now.me) 0 (own_view c.store.new.seat.me) (c.store.ensures.2.0.0.0 (e ∙ ap Some (sym (frame_is v c.frame_at-word.result c.args.frame at)))) in
    λ i. (t.0 i, t.1 i)

pub returns-clause-released : goal.returns-clause-released
returns-clause-released g c e =
    let v = c.args.seat.now.me.0.view in let at = c.frame_at-word.ensures.at ∙ ap (λ (q : Sizes). frame_word q c.args.frame) (sym c.requires.table.1) in
    let t = releases_exactly g.S.RawStore.honest (step 0 c.frame_at-word.result 0 0 none) (own_view c.args.seat.now.me) 0 (own_view c.store.new.seat.me) (c.store.ensures.2.0.0.1 (e ∙ ap Some (sym (frame_is v c.frame_at-word.result c.args.frame at)))) in
    λ i. (t.0 i, t.1 i)

pub returns-clause-unclaim_step : goal.returns-clause-unclaim_step
returns-clause-unclaim_step g c e =
    let v = c.args.seat.now.me.0.view in let at = c.frame_at-word.ensures.at ∙ ap (λ (q : Sizes). frame_word q c.args.frame) (sym c.requires.table.1) in
    let t = unclaims_step g.S.RawStore.honest (step 0 c.frame_at-word.result 0 0 none) (own_view c.args.seat.now.me) 0 (own_view c.store.new.seat.me) c.args.frame at (c.store.ensures.2.0.0.0 (e ∙ ap Some (sym (frame_is v c.frame_at-word.result c.args.frame at)))) in
    (t.0, t.1, asks_unclaim g.S.RawStore.honest v t.0 t.1.knew c.args.frame t.1.may, free_unclaims t.0 v.number c.args.frame)

pub returns-clause-step : goal.returns-clause-step
returns-clause-step g c e =
    let v = c.args.seat.now.me.0.view in let at = c.frame_at-word.ensures.at ∙ ap (λ (q : Sizes). frame_word q c.args.frame) (sym c.requires.table.1) in
    let t = releases_step g.S.RawStore.honest (step 0 c.frame_at-word.result 0 0 none) (own_view c.args.seat.now.me) 0 (own_view c.store.new.seat.me) c.args.frame at (c.store.ensures.2.0.0.1 (e ∙ ap Some (sym (frame_is v c.frame_at-word.result c.args.frame at)))) in
    (t.0, t.1, asks_release g.S.RawStore.honest v t.0 t.1.knew c.args.frame t.1.may, free_releases t.0 v.number c.args.frame)

pub returns-clause-unclaim_log : goal.returns-clause-unclaim_log
returns-clause-unclaim_log g c e =
    let v = c.args.seat.now.me.0.view in let is = c.frame_at-word.ensures.at in let at = is ∙ ap (λ (q : Sizes). frame_word q c.args.frame) (sym c.requires.table.1) in let frame = frame_is v c.frame_at-word.result c.args.frame at in
    let t = c.store.ensures.2.0.1 (e ∙ ap Some (sym frame)) in
    (t.0, subst (λ (q : ℕ × ℕ). c.store.new.seat.me.0.log ≡ c.args.seat.now.me.0.log ++ deed q.0 t.0 (Unclaims v.number q.1) ∷ []) (λ i. (is i, frame i)) t.1)

pub returns-clause-release_log : goal.returns-clause-release_log
returns-clause-release_log g c e =
    let v = c.args.seat.now.me.0.view in let is = c.frame_at-word.ensures.at in let at = is ∙ ap (λ (q : Sizes). frame_word q c.args.frame) (sym c.requires.table.1) in let frame = frame_is v c.frame_at-word.result c.args.frame at in
    let t = c.store.ensures.2.0.2 (e ∙ ap Some (sym frame)) in
    (t.0, subst (λ (q : ℕ × ℕ). c.store.new.seat.me.0.log ≡ c.args.seat.now.me.0.log ++ deed q.0 t.0 (Releases v.number q.1) ∷ []) (λ i. (is i, frame i)) t.1)
