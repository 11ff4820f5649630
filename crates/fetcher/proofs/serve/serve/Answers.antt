use Rattle.std.proofs.Common.{◌≡◌, true, false, inr, refl, sym, ap, ◌∙◌, subst}
use Rattle.pointer_word.specs.Calls.{Claims}
use Rattle.object_lock.specs.Logs.{Adds}
use Rattle.object_lock.specs.Seats.{frame_word}
use Rattle.object_moves.specs.Deeds.{BringsLogged}
use Rattle.fetcher.proofs.Serving.{brings_in, emptied, fails_to_get, finds_none, unheld}
use Rattle.fetcher.proofs.serve.serve.Goals as goal

pub returns-in_default-find_frame-clause-told : goal.returns-in_default-find_frame-clause-told
returns-in_default-find_frame-clause-told g c =
    let begun = c.in-Taken.ensures.fetched refl in
    inr (finds_none c.args.seat.now c.try_begin.new.mover c.find_frame.new.mover c.retreat.new.mover c.args.obj _ begun.1 begun.3 (c.in-Taken.ensures.logged refl) c.in_default-find_frame.ensures.told c.retreat.ensures.retreated c.retreat.ensures.logged)

pub returns-then-bring_into-clause-told : goal.returns-then-bring_into-clause-told
returns-then-bring_into-clause-told g c =
    let begun = c.in-Taken.ensures.fetched refl in let s = c.args.seat.now in let a = c.try_begin.new.mover in let b = c.find_frame.new.mover in let t = c.bring_into.new.mover in let o = c.args.obj in let f = c.in-Claimed.frame in
    let sizes = sym c.requires.table.1 in let there = ap (λ t. t.sizes) c.table-table.ensures ∙ sizes in
    brings_in s a b t o _ begun.1 g.S.RawStore.honest b.view.hand.promised f begun.3 (c.in-Taken.ensures.logged refl) c.in-Claimed.ensures.told.1
    (subst (λ z. Adds a.log b.log (frame_word z f) (Claims a.view.number o f) (λ n. n ≡ 0)) sizes c.in-Claimed.ensures.logged)
    (unheld g.S.RawStore.honest _ _ _ _ c.in-Taken.ensures.step) c.if-bring_into.ensures.told.0 c.if-bring_into.ensures.told.1
    (λ free. subst (λ z. BringsLogged g.S.RawStore.honest z b.view.number o f false b.view.hand.promised true b.log t.log) there (c.if-bring_into.ensures.unheld_log free))

pub returns-else-bring_into-clause-told : goal.returns-else-bring_into-clause-told
returns-else-bring_into-clause-told g c =
    let begun = c.in-Taken.ensures.fetched refl in let s = c.args.seat.now in let a = c.try_begin.new.mover in let b = c.find_frame.new.mover in let t = c.bring_into.new.mover in let o = c.args.obj in let f = c.in-Claimed.frame in
    let sizes = sym c.requires.table.1 in let there = ap (λ t. t.sizes) c.table-table.ensures ∙ sizes in
    fails_to_get s a b t o _ begun.1 g.S.RawStore.honest g.S.RawStore.reliable b.view.hand.promised f begun.3 (c.in-Taken.ensures.logged refl) c.in-Claimed.ensures.told.1
    (subst (λ z. Adds a.log b.log (frame_word z f) (Claims a.view.number o f) (λ n. n ≡ 0)) sizes c.in-Claimed.ensures.logged)
    (unheld g.S.RawStore.honest _ _ _ _ c.in-Taken.ensures.step) c.if-bring_into.ensures.told
    (λ free. subst (λ z. BringsLogged g.S.RawStore.honest z b.view.number o f false b.view.hand.promised false b.log t.log) there (c.if-bring_into.ensures.unheld_log free))

pub returns-then-bring_into-clause-hands : goal.returns-then-bring_into-clause-hands
returns-then-bring_into-clause-hands g c = emptied c.args.obj c.args.seat.now c.bring_into.new.mover c.requires.hands (returns-then-bring_into-clause-told g c)
