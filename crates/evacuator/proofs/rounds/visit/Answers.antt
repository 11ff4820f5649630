use Rattle.std.proofs.Common.{◌≡◌, ℕ, List, false, true, length, refl, sym, ap, ◌∙◌, subst}
use Rattle.pointer_word.specs.Calls.{Marks}
use Rattle.pointer_word.specs.Hands.{Hand, leaving, marking, releasing}
use Rattle.pointer_word.specs.Words.{Here, face}
use Rattle.object_lock.specs.Logs.{Adds}
use Rattle.object_moves.specs.Deeds.{LeavesLogged, MovesLogged}
use Rattle.object_moves.specs.Moving.{hand_after}
use Rattle.object_moves.specs.Ways.{did_of}
use Rattle.object_moves.proofs.Visiting.{visit_logged}
use Rattle.evacuator.specs.Rounds.{Visits}
use Rattle.evacuator.proofs.Visits.{visits_clean, visits_marked, visits_none}
use Rattle.evacuator.proofs.rounds.visit.Goals as goal

pub returns-in_default-clause-visits : goal.returns-in_default-clause-visits
returns-in_default-clause-visits g c =
    visits_none c.args.table.now.sizes c.args.seat.now.view.number (did_of c.args.seat.now) (did_of c.look.new.mover) c.none.result (ap did_of c.look.ensures.same) c.none.ensures

pub returns-then-leave_clean-clause-visits : goal.returns-then-leave_clean-clause-visits
returns-then-leave_clean-clause-visits g c =
    let z = c.args.table.now.sizes in let s = c.args.seat.now in let t = c.leave_clean.new.mover in let o = c.in-Some.obj in let f = c.args.frame in
    subst (Visits z s.view.number (did_of s) (did_of t)) (sym c.of.ensures)
    (visits_clean z s.view.number s.view.hand s.log t.log t.view.hand.past o f (ap (λ x. x.view.hand.past) c.if-leave_clean.ensures.told ∙ ap (λ x. (releasing (leaving x.view.hand f)).past) c.look.ensures.same) c.in-Some.ensures.near c.requires.low
    (subst (λ x. LeavesLogged z x.view.number o f true x.log t.log) c.look.ensures.same c.if-leave_clean.ensures.logged))

pub returns-then-not-try_mark-clause-visits : goal.returns-then-not-try_mark-clause-visits
returns-then-not-try_mark-clause-visits g c =
    visits_none c.args.table.now.sizes c.args.seat.now.view.number (did_of c.args.seat.now) (did_of c.try_mark.new.mover) c.none-then-not-try_mark.result (ap did_of (c.if-not-try_mark.ensures.told ∙ c.if-leave_clean.ensures.told ∙ c.look.ensures.same)) c.none-then-not-try_mark.ensures

pub returns-clause-visits : goal.returns-clause-visits
returns-clause-visits g c =
    let z = c.args.table.now.sizes in let s = c.args.seat.now in let k = c.try_mark.new.mover in let t = c.move_out.new.mover in let ps = t.view.hand.copied in let o = c.in-Some.obj in let f = c.args.frame in let r = c.move_out.result in
    let here = c.if-leave_clean.ensures.told ∙ c.look.ensures.same in
    let marked = ap (λ x. x.view.hand) c.if-not-try_mark.ensures.told.1 ∙ ap (λ x. marking x.view.hand o f) here in
    let number : k.view.number ≡ s.view.number = ap (λ x. x.view.number) c.if-not-try_mark.ensures.told.1 ∙ ap (λ x. x.view.number) here in
    let one = subst (λ x. Adds x.log k.log o (Marks x.view.number o f) (λ n. n ≡ face (Here f false) 0)) here (c.if-not-try_mark.ensures.logged refl) in
    let gone = subst (λ n. (ws : List ℕ) × (length ws ≡ z.cells) × MovesLogged z n o f ws r k.log t.log) number c.move_out.ensures.logged in
    subst (Visits z s.view.number (did_of s) (did_of t)) (sym c.of-2.ensures)
    (visits_marked z s.view.number s.view.hand t.view.hand s.log t.log o f r ps (ap (λ x. x.view.hand) c.move_out.ensures.told.0 ∙ ap (λ (x : Hand). hand_after r x ps) marked) (visit_logged z s.view.number o f r s.log k.log t.log c.in-Some.ensures.near c.requires.low one gone))
