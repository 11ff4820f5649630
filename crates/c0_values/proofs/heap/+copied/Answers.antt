use Rattle.std.proofs.Common.{◌≤◌, ap, ◌∙◌, sym, map, length, arith}
use Rattle.std.proofs.lemmas.List.{take_all}
use Rattle.c0_typed.specs.Values.{Node}
use Rattle.c0_values.specs.PlainStates.{tree_of, trees_of, parts_in_order}
use Rattle.c0_values.proofs.Parts.{tree_node}
use Rattle.c0_values.proofs.heap.+copied.Goals as goal

pub loop-part-init : goal.loop-part-init
loop-part-init t c = (
  (λ texts. ap (tree_of texts) c.in-Node.is ∙ tree_node texts c.in-Node.parts ∙ ap (λ xs. Node (trees_of texts xs)) (sym c.deref-part-items.ensures.value)),
  (λ texts. ap (map (tree_of texts)) c.new-all.ensures.items),
)

pub returns-after-loop-part : goal.returns-after-loop-part
returns-after-loop-part t c = λ texts.
    let xs = c.deref-part-items.result.now in
    let i = c.loop-part.part-index in
    let end : length xs ≤ i = omega (arith, c.loop-part-test.false) in
    tree_node texts c.loop-part.all
    ∙ ap (λ ts. Node (parts_in_order ts)) (c.loop-part.invariant.1 texts ∙ ap (map (tree_of texts)) (take_all i xs end))
    ∙ sym (c.loop-part.invariant.0 texts)
