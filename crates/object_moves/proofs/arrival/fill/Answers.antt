use Rattle.std.proofs.Common.{◌≡◌, ◌+◌, suc, append-nil, sym, ap, subst, arith, rules}
use Rattle.pointer_word.specs.Hands.{listed}
use Rattle.pointer_word.specs.Calls.{Fills}
use Rattle.object_lock.specs.Logs.{AddsOne}
use Rattle.object_lock.specs.Seats.{cell_word}
use Rattle.object_moves.specs.Deeds.{AddsFills}
use Rattle.object_moves.proofs.Adding.{one_fill}
use Rattle.object_moves.proofs.Taking.{fill_more}
use Rattle.object_moves.proofs.arrival.fill.Goals as goal

pub loop-i-preserved : goal.loop-i-preserved
loop-i-preserved g c =
    let more = fill_more c.args.mover.now c.loop-i.mover c.fill_behind.new.mover c.args.words.now c.loop-i.i c.loop-i.invariant.1 c.loop-i.invariant.2 c.fill_behind.ensures.filled in
    let z = c.args.table.now.sizes in let m = c.args.mover.now.view.number in
    let number : c.loop-i.mover.view.number ≡ m = ap (λ x. x.view.number) c.loop-i.invariant.1 in
    let last = subst (λ k. AddsOne c.loop-i.mover.log c.fill_behind.new.mover.log (cell_word z c.args.frame c.loop-i.i) (Fills k c.args.frame c.loop-i.i (listed c.args.words.now c.loop-i.i))) number c.fill_behind.ensures.logged in
    let grown = one_fill z m c.args.frame c.args.words.now c.loop-i.i c.args.mover.now.log c.loop-i.mover.log c.fill_behind.new.mover.log c.loop-i.invariant.3 last in
    let next : suc c.loop-i.i ≡ c.loop-i.i + 1 = omega arith in
    (c.fill_behind.ensures.table, more.0, more.1, subst (λ k. AddsFills z m c.args.frame c.args.words.now k c.args.mover.now.log c.fill_behind.new.mover.log) next grown)

pub loop-i-init : goal.loop-i-init
loop-i-init g c = (search rules, search rules, search rules, ((λ i. 0), sym (append-nil c.args.mover.now.log)))
