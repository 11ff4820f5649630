use Rattle.std.proofs.Common.{◌≡◌, ap, ◌∙◌, sym, replicate, arith}
use Rattle.c0_values.specs.PlainStates.{tree_of, parts_in_order}
use Rattle.c0_values.proofs.Parts.{copies_are}
use Rattle.c0_values.proofs.heap.copies.Goals as goal

pub returns : goal.returns
returns c = λ texts.
    let all_made : c.loop.counter ≡ c.args.count = omega (arith, c.loop-test.false, c.loop.auto.counter-end) in
    let t = tree_of texts c.args.tree.now in
    ap parts_in_order (c.loop.invariant texts ∙ ap (λ n. replicate n t) all_made) ∙ sym (copies_are c.args.count t)
