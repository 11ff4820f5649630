use Rattle.std.proofs.Common.{◌≡◌, [], length, map, take}
use Rattle.c0_typed.specs.Meaning.{default, struct_defaults}
use Rattle.c0_typed.specs.Views.{struct_of, type_of}
use Rattle.c0_values.specs.PlainStates.{Texts, tree_of}
use Rattle.c0_values.proofs.heap.+default_tree.Given as goal

abbrev pub decreases-default_tree : goal.decreases-default_tree
decreases-default_tree l = length l.structs.now

abbrev pub invariant-loop-field : goal.invariant-loop-field
invariant-loop-field l = (texts : Texts) → map (tree_of texts) l.all.items ≡ map (default (struct_defaults [] (map struct_of l.before))) (map type_of (take l.field-index l.field-items))
