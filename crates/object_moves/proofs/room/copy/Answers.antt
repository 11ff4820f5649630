use Rattle.object_moves.proofs.Copying.{copy_more, moving}
use Rattle.std.proofs.Common.{◌≡◌, ◌+◌, ◌++◌, suc, set, ap, subst, length, arith, ◌∙◌}
use Rattle.pointer_word.specs.Calls.{Copies}
use Rattle.object_lock.specs.Logs.{Adds}
use Rattle.object_lock.specs.Seats.{cell_word}
use Rattle.object_moves.specs.Deeds.{copies}
use Rattle.object_moves.proofs.Adding.{one_copy}
use Rattle.std.proofs.lemmas.List.{length-set}
use Rattle.object_moves.proofs.room.copy.Goals as goal

pub copy_behind-requires-clause-leaves : goal.copy_behind-requires-clause-leaves
copy_behind-requires-clause-leaves g c κs within = moving c.args.mover.now c.loop-i.mover c.args.obj c.args.frame c.loop-i.invariant.1 c.requires.hands

pub loop-i-preserved : goal.loop-i-preserved
loop-i-preserved g c =
    let many : length c.loop-i.words ≡ c.args.table.now.sizes.cells = c.loop-i.invariant.2 in
    let low = c.loop-i-test.true in
    let end = c.requires.words in
    let more = copy_more c.args.mover.now c.loop-i.mover c.copy_behind.new.mover c.loop-i.words c.loop-i.i c.copy_behind.result (omega arith) c.loop-i.invariant.1 c.loop-i.invariant.3 c.copy_behind.ensures.copied in
    let z = c.args.table.now.sizes in let m = c.args.mover.now.view.number in
    let number : c.loop-i.mover.view.number ≡ m = ap (λ x. x.view.number) c.loop-i.invariant.1 in
    let last = subst (λ k. Adds c.loop-i.mover.log c.copy_behind.new.mover.log (cell_word z c.args.frame c.loop-i.i) (Copies k c.args.frame c.loop-i.i) (λ x. x ≡ c.copy_behind.result)) number c.copy_behind.ensures.logged in
    let grown = one_copy z m c.args.frame c.loop-i.words c.loop-i.i c.copy_behind.result c.args.mover.now.log c.loop-i.mover.log c.copy_behind.new.mover.log (omega arith) c.loop-i.invariant.4 last in
    let next : suc c.loop-i.i ≡ c.loop-i.i + 1 = omega arith in
    (c.copy_behind.ensures.table, more.0, length-set c.loop-i.words c.loop-i.i c.copy_behind.result ∙ many, more.1, subst (λ k. c.copy_behind.new.mover.log ≡ c.args.mover.now.log ++ copies z m c.args.frame (set c.loop-i.words c.loop-i.i c.copy_behind.result) k) next grown)
