use Rattle.std.proofs.Common.{◌≡◌, sym, ap, subst, ◌<◌, ◌≤◌, ◌∙◌, ℕ}
use Rattle.std.specs.Prelude.{Some}
use Rattle.pointer_word.specs.Hands.{listed, seen}
use Rattle.pointer_word.specs.Calls.{Aborts}
use Rattle.object_lock.specs.Logs.{AddsOne}
use Rattle.object_moves.specs.Deeds.{GoesLogged}
use Rattle.object_moves.proofs.Adding.{failed_so, moved_so}
use Rattle.cells.proofs.Pieces.{piece_most}
use Rattle.object_lock.specs.Seats.{Sizes}
use Rattle.object_moves.proofs.Copying.{has_put}
use Rattle.object_moves.proofs.room.move_by_way_of.Goals as goal

pub put-requires-clause-words : goal.put-requires-clause-words
put-requires-clause-words g c κs within =
    let same = ap (λ (z : Sizes). z.cells) c.copy.ensures.table.1 in
    (c.copy.ensures.length ∙ sym same, subst (λ (n : ℕ). n ≤ 256) (sym c.copy.ensures.length) (piece_most _ c.requires.table.4.2))

pub let_go-requires-clause-put : goal.let_go-requires-clause-put
let_go-requires-clause-put g c κs within = has_put g.S.RawStore.fits g.S.RawStore.content c.args.table.now.sizes.cells _ c.args.obj c.copy.new.mover c.put.new.self c.copy.new.words c.copy.ensures.copied c.put.ensures.same (ap (λ (z : Sizes). z.cells) c.copy.ensures.table.1) c.in-Ok.ensures.put

pub returns-in-Ok-clause-logged : goal.returns-in-Ok-clause-logged
returns-in-Ok-clause-logged g c =
    let z = c.args.table.now.sizes in let s = c.args.mover.now in let t = c.copy.new.mover in let u = c.put.new.self in let h = c.let_go.ensures.logged in
    let number : u.view.number ≡ s.view.number = ap (λ x. x.view.number) (c.put.ensures.same) ∙ ap (λ x. x.view.number) c.copy.ensures.same in
    let log : u.log ≡ t.log = ap (λ x. x.log) c.put.ensures.same in
    let words : (i : ℕ) → i < z.cells → listed c.copy.new.words i ≡ listed h.0 i = λ i l. let e : Some (listed c.copy.new.words i) ≡ Some (listed h.0 i) = sym (c.copy.ensures.copied i l) ∙ sym (ap (λ x. seen x.view.hand.copied i) c.put.ensures.same) ∙ h.2 i l in cc in (
      h.0,
      h.1,
      moved_so z s.view.number c.args.obj c.args.frame c.copy.new.words h.0 c.let_go.result s.log u.log c.let_go.new.mover.log (log ∙ c.copy.ensures.logged) words
          (subst (λ k. GoesLogged z k c.args.obj c.args.frame h.0 c.let_go.result u.log c.let_go.new.mover.log) number h.3),
    )

pub returns-in-Err-clause-logged : goal.returns-in-Err-clause-logged
returns-in-Err-clause-logged g c =
    let z = c.args.table.now.sizes in let s = c.args.mover.now in let t = c.copy.new.mover in let u = c.put.new.self in
    let number : u.view.number ≡ s.view.number = ap (λ x. x.view.number) c.put.ensures.same ∙ ap (λ x. x.view.number) c.copy.ensures.same in
    let source : u.view.hand.source ≡ c.args.frame = ap (λ x. x.view.hand.source) c.put.ensures.same ∙ ap (λ x. x.view.hand.source) c.copy.ensures.same ∙ c.requires.hands.1 in
    let log : u.log ≡ t.log = ap (λ x. x.log) c.put.ensures.same in (
      c.copy.new.words,
      c.copy.ensures.length,
      failed_so z s.view.number c.args.obj c.args.frame c.copy.new.words s.log u.log c.abort.new.mover.log (log ∙ c.copy.ensures.logged)
          (subst (λ (q : ℕ × ℕ). AddsOne u.log c.abort.new.mover.log c.args.obj (Aborts q.0 c.args.obj q.1)) (λ i. (number i, source i)) c.abort.ensures.logged),
    )
