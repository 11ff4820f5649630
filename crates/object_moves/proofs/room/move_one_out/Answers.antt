use Rattle.std.proofs.Common.{arith, ◌≡◌, ℕ, false, List, length, refl, ap, ◌∙◌, subst}
use Rattle.pointer_word.specs.Hands.{Hand, marking}
use Rattle.object_lock.specs.Logs.{Adds}
use Rattle.pointer_word.specs.Calls.{Marks}
use Rattle.pointer_word.specs.Words.{Here, face}
use Rattle.object_moves.specs.Deeds.{MovesLogged}
use Rattle.object_moves.specs.Moving.{hand_after}
use Rattle.object_moves.specs.declared.moved.Moved.TheVariants as M
use Rattle.object_moves.proofs.Visiting.{room_lacked, room_left, room_stayed, visit_logged}
use Rattle.object_moves.proofs.room.move_one_out.Goals as goal

pub returns-in-Left-clause-visits : goal.returns-in-Left-clause-visits
returns-in-Left-clause-visits g c =
    let z = c.args.table.now.sizes in let s = c.args.owner.now in let k = c.try_mark.new.mover in let t = c.move_out.new.mover in let o = c.in-Some.victim in let f = c.loop-frame.frame in
    let below = c.loop-frame-test.true in let many = c.requires.many in let here = c.look.ensures.same ∙ c.loop-frame.invariant in
    let marked = ap (λ x. x.view.hand) c.if-try_mark.ensures.told.1 ∙ ap (λ x. marking x.view.hand o f) here in
    let number : k.view.number ≡ s.view.number = ap (λ x. x.view.number) c.if-try_mark.ensures.told.1 ∙ ap (λ x. x.view.number) here in
    let one = subst (λ x. Adds x.log k.log o (Marks x.view.number o f) (λ n. n ≡ face (Here f false) 0)) here (c.if-try_mark.ensures.logged refl) in
    let gone = subst (λ n. (ws : List ℕ) × (length ws ≡ z.cells) × MovesLogged z n o f ws M.Left k.log t.log) number c.in-Left.ensures.logged in
    room_left z s.view.number s.view.hand t.view.hand s.log t.log o f t.view.hand.copied (ap (λ x. x.view.hand) c.in-Left.ensures.told.0 ∙ ap (λ (x : Hand). hand_after M.Left x t.view.hand.copied) marked)
    (visit_logged z s.view.number o f M.Left s.log k.log t.log c.in-Some.ensures.near (omega arith) one gone)

pub returns-in-Stayed-clause-visits : goal.returns-in-Stayed-clause-visits
returns-in-Stayed-clause-visits g c =
    let z = c.args.table.now.sizes in let s = c.args.owner.now in let k = c.try_mark.new.mover in let t = c.move_out.new.mover in let o = c.in-Some.victim in let f = c.loop-frame.frame in
    let below = c.loop-frame-test.true in let many = c.requires.many in let here = c.look.ensures.same ∙ c.loop-frame.invariant in
    let marked = ap (λ x. x.view.hand) c.if-try_mark.ensures.told.1 ∙ ap (λ x. marking x.view.hand o f) here in
    let number : k.view.number ≡ s.view.number = ap (λ x. x.view.number) c.if-try_mark.ensures.told.1 ∙ ap (λ x. x.view.number) here in
    let one = subst (λ x. Adds x.log k.log o (Marks x.view.number o f) (λ n. n ≡ face (Here f false) 0)) here (c.if-try_mark.ensures.logged refl) in
    let gone = subst (λ n. (ws : List ℕ) × (length ws ≡ z.cells) × MovesLogged z n o f ws M.Stayed k.log t.log) number c.in-Stayed.ensures.logged in
    room_stayed z s.view.number s.view.hand t.view.hand s.log t.log o f t.view.hand.copied (ap (λ x. x.view.hand) c.in-Stayed.ensures.told.0 ∙ ap (λ (x : Hand). hand_after M.Stayed x t.view.hand.copied) marked)
    (visit_logged z s.view.number o f M.Stayed s.log k.log t.log c.in-Some.ensures.near (omega arith) one gone)

pub returns-in-Failed-clause-visits : goal.returns-in-Failed-clause-visits
returns-in-Failed-clause-visits g c =
    let z = c.args.table.now.sizes in let s = c.args.owner.now in let k = c.try_mark.new.mover in let t = c.move_out.new.mover in let o = c.in-Some.victim in let f = c.loop-frame.frame in
    let below = c.loop-frame-test.true in let many = c.requires.many in let here = c.look.ensures.same ∙ c.loop-frame.invariant in
    let marked = ap (λ x. x.view.hand) c.if-try_mark.ensures.told.1 ∙ ap (λ x. marking x.view.hand o f) here in
    let number : k.view.number ≡ s.view.number = ap (λ x. x.view.number) c.if-try_mark.ensures.told.1 ∙ ap (λ x. x.view.number) here in
    let one = subst (λ x. Adds x.log k.log o (Marks x.view.number o f) (λ n. n ≡ face (Here f false) 0)) here (c.if-try_mark.ensures.logged refl) in
    let gone = subst (λ n. (ws : List ℕ) × (length ws ≡ z.cells) × MovesLogged z n o f ws M.Failed k.log t.log) number c.in-Failed.ensures.logged in
    room_lacked z s.view.number s.view.hand t.view.hand s.log t.log o f t.view.hand.copied (ap (λ x. x.view.hand) c.in-Failed.ensures.told.0 ∙ ap (λ (x : Hand). hand_after M.Failed x t.view.hand.copied) marked)
    (visit_logged z s.view.number o f M.Failed s.log k.log t.log c.in-Some.ensures.near (omega arith) one gone)
