use Rattle.std.proofs.Common.{◌<◌, [], map, arith}
use Rattle.c0_values.specs.PlainStates.{tree_of}
use Rattle.c0_values.proofs.Heaps.{not_empty}
use Rattle.c0_values.proofs.plain_state.PlainState.element.Goals as goal

pub overflow_sub-result : goal.overflow_sub-result
overflow_sub-result c =
    let inside : c.in-Some.index < c.length.result = omega (arith, c.if-index-length.false) in
    not_empty (map (tree_of []) c.args.self.now.heap.items) c.reference-reference.result c.length.result c.in-Some.index (c.length.ensures []) inside
