use Rattle.std.proofs.Common.{◌≡◌, ◌<◌, ◌+◌, ◌*◌, ◌++◌, length}
use Rattle.std.specs.Vec.Iter.{into_iter_items, into_iter_len}
use Rattle.middle_form.specs.ScopedViews.{scoped_code_of, scoped_sequence_of}
use Rattle.scoped_building.specs.Building.{codes}
use Rattle.guard_hoisting.specs.Hoisted.{moved}
use Rattle.guard_hoisting.proofs.Sizes.{size_all, size_code}
use Rattle.guard_hoisting.proofs.moving.+moving.Given as goal

abbrev pub decreases-move_code : goal.decreases-move_code
decreases-move_code l = 2 * size_code l.code

abbrev pub decreases-move_whole : goal.decreases-move_whole
decreases-move_whole l = 1 + 2 * size_code l.code.value

-- what is there, and then what comes in place of the parts that are left
abbrev pub invariant-move_code-loop-part : goal.invariant-move_code-loop-part
invariant-move_code-loop-part l = record {
  parts : codes l.parts.items ++ moved l.ways (scoped_sequence_of (into_iter_items l.part-iterator)) ≡ codes l.fn.parts.items ++ moved l.ways (scoped_code_of l.fn.code);
  smaller : size_all (into_iter_items l.part-iterator) < size_code l.fn.code;
  long : into_iter_len l.part-iterator ≡ length (into_iter_items l.part-iterator);
}
