use Rattle.std.proofs.Common.{◌≡◌, map, take}
use Rattle.c0_typed.specs.Values.{Node}
use Rattle.c0_values.specs.PlainStates.{Texts, tree_of, trees_of}
use Rattle.c0_values.proofs.heap.+copied.Given as goal

abbrev pub invariant-loop-part : goal.invariant-loop-part
invariant-loop-part l =
    ((texts : Texts) → tree_of texts l.tree ≡ Node (trees_of texts l.part-items))
    × ((texts : Texts) → map (tree_of texts) l.all.items ≡ map (tree_of texts) (take l.part-index l.part-items))
