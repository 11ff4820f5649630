use Rattle.std.proofs.Common.{◌≡◌, ◌<◌, ◌≤◌, ℕ, List, true, false, sym, ap, subst, ◌∙◌, rules}
use Rattle.pointer_word.specs.Calls.{Arrives}
use Rattle.object_lock.specs.Logs.{AddsOne, Deed}
use Rattle.object_lock.specs.Plays.{Holds, IsUnheld}
use Rattle.object_moves.specs.Deeds.{AddsFills}
use Rattle.object_moves.proofs.Adding.{brought_so}
use Rattle.object_moves.proofs.Taking.{arrived_by}
use Rattle.cells.proofs.Pieces.{piece_most}
use Rattle.object_lock.specs.Seats.{Sizes}
use Rattle.object_moves.proofs.Taking.{filled_hand}
use Rattle.object_moves.proofs.arrival.bring_by_way_of.Goals as goal

pub read-requires-clause-words : goal.read-requires-clause-words
read-requires-clause-words g c κs within =
    (c.requires.words ∙ sym (ap (λ (z : Sizes). z.cells) c.requires.table.1), subst (λ (n : ℕ). n ≤ 256) (sym c.requires.words) (piece_most _ c.requires.table.4.2))

pub arrive-requires-clause-filled : goal.arrive-requires-clause-filled
arrive-requires-clause-filled g c κs within =
    filled_hand g.S.RawStore.honest c.args.mover.now c.read.new.mover c.fill.new.mover c.args.table.now.sizes.cells c.read.new.words
    c.read.ensures.same c.fill.ensures.same c.fill.ensures.filled (λ t i l. c.if-read.ensures.told.1 t i (subst (λ n. i < n) (sym c.requires.words) l))

pub returns-then-read-clause-told : goal.returns-then-read-clause-told
returns-then-read-clause-told g c = (
  arrived_by c.args.obj c.args.frame c.args.mover.now c.read.new.mover c.fill.new.mover c.arrive.new.mover c.read.ensures.same c.fill.ensures.same c.arrive.ensures.arrived c.arrive.ensures.brought,
  search (rules, c.read.ensures.same, c.fill.ensures.same),
)

pub returns-then-read-clause-held_log : goal.returns-then-read-clause-held_log
returns-then-read-clause-held_log g c holds =
    let z = c.args.table.now.sizes in let s = c.args.mover.now in let r = c.read.new.mover in let w = c.fill.new.mover in let t = c.arrive.new.mover in
    let number : r.view.number ≡ s.view.number = ap (λ x. x.view.number) c.read.ensures.same in
    let number' : w.view.number ≡ s.view.number = ap (λ x. x.view.number) c.fill.ensures.same ∙ number in
    let log : r.log ≡ s.log = ap (λ x. x.log) c.read.ensures.same in
    let there : Holds w.view c.args.obj = subst (λ x. Holds x.view c.args.obj) (sym c.fill.ensures.same) (subst (λ x. Holds x.view c.args.obj) (sym c.read.ensures.same) holds) in
    brought_so g.S.RawStore.honest z s.view.number c.args.obj c.args.frame true s.view.hand.promised c.read.new.words s.log w.log t.log (c.read.ensures.length ∙ c.requires.words)
    (λ h i l. c.if-read.ensures.told.1 h i (subst (λ n. i < n) (sym c.requires.words) l))
    (subst (λ (q : ℕ × List Deed). AddsFills z q.0 c.args.frame c.read.new.words z.cells q.1 w.log) (λ i. (number i, log i)) c.fill.ensures.logged)
    (subst (λ k. AddsOne w.log t.log c.args.obj (Arrives k c.args.obj c.args.frame true)) number' (c.arrive.ensures.held_log there))

pub returns-then-read-clause-unheld_log : goal.returns-then-read-clause-unheld_log
returns-then-read-clause-unheld_log g c unheld =
    let z = c.args.table.now.sizes in let s = c.args.mover.now in let r = c.read.new.mover in let w = c.fill.new.mover in let t = c.arrive.new.mover in
    let number : r.view.number ≡ s.view.number = ap (λ x. x.view.number) c.read.ensures.same in
    let number' : w.view.number ≡ s.view.number = ap (λ x. x.view.number) c.fill.ensures.same ∙ number in
    let log : r.log ≡ s.log = ap (λ x. x.log) c.read.ensures.same in
    let there : IsUnheld w.view c.args.obj = subst (λ x. IsUnheld x.view c.args.obj) (sym c.fill.ensures.same) (subst (λ x. IsUnheld x.view c.args.obj) (sym c.read.ensures.same) unheld) in
    brought_so g.S.RawStore.honest z s.view.number c.args.obj c.args.frame false s.view.hand.promised c.read.new.words s.log w.log t.log (c.read.ensures.length ∙ c.requires.words)
    (λ h i l. c.if-read.ensures.told.1 h i (subst (λ n. i < n) (sym c.requires.words) l))
    (subst (λ (q : ℕ × List Deed). AddsFills z q.0 c.args.frame c.read.new.words z.cells q.1 w.log) (λ i. (number i, log i)) c.fill.ensures.logged)
    (subst (λ k. AddsOne w.log t.log c.args.obj (Arrives k c.args.obj c.args.frame false)) number' (c.arrive.ensures.unheld_log there))
