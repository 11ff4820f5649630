use Rattle.std.proofs.Common.{◌≡◌, ℕ, true, not, [], ◌∷◌, ◌++◌, arith, ap, ne_eqb, refl, ◌∙◌, subst}
use Rattle.std.specs.Prelude.{Bool, Some, ◌==◌}
use Rattle.pointer_word.specs.Hands.{Began}
use Rattle.pointer_word.specs.Calls.{Begins}
use Rattle.pointer_word.specs.Words.{framed}
use Rattle.object_lock.specs.Logs.{Adds}
use Rattle.object_lock.specs.Plays.{FoundWord}
use Rattle.object_lock.specs.SeatViews.{SeatView}
use Rattle.object_moves.specs.Ways.{GoesOn, WayLogged, did_of}
use Rattle.object_moves.proofs.Visiting.{comes_begun, comes_found}
use Rattle.object_moves.proofs.bring.fetch.Goals as goal

pub returns-in-Taken-clause-way : goal.returns-in-Taken-clause-way
returns-in-Taken-clause-way g c =
    let z = c.args.table.now.sizes in let s = c.args.owner.now in let l = c.loop.owner in let t = c.try_begin.new.mover in let u = c.bring.new.owner in let o = c.args.obj in let n : ℕ = c.args.count in
    let same : l ≡ s = c.loop.invariant.2 in
    let own : not (n == 0) ≡ true = ap not (ne_eqb n 0 (λ e. let h = c.requires.hold.1 in omega arith)) in
    let number : t.view.number ≡ s.view.number = ap (λ x. x.view.number) (c.in-Taken.ensures.told c.requires.hold.1).3 ∙ ap (λ x. x.view.number) same in
    comes_begun z s.view.number o n c.bring.result (did_of s) (did_of t) (did_of u)
    (ap (λ x. x.view.hand.past) (c.in-Taken.ensures.told c.requires.hold.1).3 ∙ ap (λ x. x.view.hand.past ++ Began o ∷ []) same)
    (subst (λ (q : SeatView g.row.S.Denot g.row.S-Cell.Denot × Bool). Adds q.0.log t.log o (Begins q.0.view.number o n q.1) (λ k. k ≡ n)) (λ i. (same i, own i)) (c.in-Taken.ensures.logged refl))
    (subst (λ m. GoesOn z m o c.bring.result (did_of t) (did_of u)) number c.bring.ensures.course)

pub returns-in-Here-clause-way : goal.returns-in-Here-clause-way
returns-in-Here-clause-way g c =
    let z = c.args.table.now.sizes in let s = c.args.owner.now in let l = c.loop.owner in let t = c.try_begin.new.mover in let o = c.args.obj in let n : ℕ = c.args.count in let f = c.in-Here.frame in
    let same : l ≡ s = c.loop.invariant.2 in
    comes_found (WayLogged z s.view.number o n (Some f)) o f (did_of s) (did_of t)
    (ap (λ x. x.view.hand.past) (c.in-Here.ensures.told c.requires.hold.1).2 ∙ ap (λ x. x.view.hand.past) same)
    (subst (λ y. Adds s.log t.log o (Begins s.view.number o n true) (FoundWord y (λ w. framed w.place ≡ Some f))) c.requires.table.1
    (subst (λ (q : SeatView g.row.S.Denot g.row.S-Cell.Denot). Adds q.log t.log o (Begins q.view.number o n true) (FoundWord q.view.sizes (λ w. framed w.place ≡ Some f))) same (c.in-Here.ensures.noted f c.requires.hold.1 refl)))
