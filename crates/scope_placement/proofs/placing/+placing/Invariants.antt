use Rattle.std.proofs.Common.{◌≡◌, ◌≤◌, ◌<◌, ◌+◌, ◌*◌, ◌++◌, length, max}
use Rattle.std.specs.Vec.Iter.{into_iter_items, into_iter_len}
use Rattle.middle_form.specs.Views.{code_of, sequence_of}
use Rattle.scoped_building.specs.Building.{codes}
use Rattle.scope_placement.specs.Placed.{most_open, open_behind, placed}
use Rattle.scope_placement.proofs.Sizes.{size_all, size_code}
use Rattle.scope_placement.proofs.placing.+placing.Given as goal

abbrev pub decreases-place_code : goal.decreases-place_code
decreases-place_code l = 2 * size_code l.code

abbrev pub decreases-place_whole : goal.decreases-place_whole
decreases-place_whole l = 1 + 2 * size_code l.code.value

-- what is there, and then what comes in place of the parts that are left
abbrev pub invariant-place_code-loop-part : goal.invariant-place_code-loop-part
invariant-place_code-loop-part l = record {
  parts : codes l.parts.items ++ placed (sequence_of (into_iter_items l.part-iterator)) l.run.registers.items ≡ codes l.fn.parts.items ++ placed (code_of l.fn.code) l.fn.run.registers.items;
  registers : open_behind (sequence_of (into_iter_items l.part-iterator)) l.run.registers.items ≡ open_behind (code_of l.fn.code) l.fn.run.registers.items;
  most : max l.run.most (most_open (sequence_of (into_iter_items l.part-iterator)) l.run.registers.items) ≡ max l.fn.run.most (most_open (code_of l.fn.code) l.fn.run.registers.items);
  few : length l.run.registers.items ≤ 4;
  smaller : size_all (into_iter_items l.part-iterator) < size_code l.fn.code;
  long : into_iter_len l.part-iterator ≡ length (into_iter_items l.part-iterator);
}
