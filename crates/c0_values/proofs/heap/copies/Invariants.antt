use Rattle.std.proofs.Common.{◌≡◌, map, replicate}
use Rattle.c0_values.specs.PlainStates.{Texts, tree_of}
use Rattle.c0_values.proofs.heap.copies.Given as goal

abbrev pub invariant-loop : goal.invariant-loop
invariant-loop l = (texts : Texts) → map (tree_of texts) l.all.items ≡ replicate l.counter (tree_of texts l.tree)
