use Rattle.std.proofs.Common.{◌≡◌, ap, ◌∙◌, sym, length, arith}
use Rattle.c0_typed.specs.Values.{count, parts}
use Rattle.c0_values.specs.PlainStates.{tree_of}
use Rattle.c0_values.proofs.Parts.{tree_node}
use Rattle.c0_values.proofs.Heaps.{count_is}
use Rattle.c0_values.proofs.heap.part_count.Goals as goal

pub returns-in-Node : goal.returns-in-Node
returns-in-Node c = λ texts.
    let all = c.in-Node.parts in
    let long : c.len.result ≡ length all.items = omega (arith, c.len.ensures) in
    long ∙ count_is texts all.items ∙ sym (ap (λ t. count (parts t)) (ap (tree_of texts) c.in-Node.is ∙ tree_node texts all))
