use Rattle.std.proofs.Common.{◌≡◌, ◌<◌, ◌+◌, ◌*◌, ◌++◌, length, max}
use Rattle.std.specs.Vec.Iter.{into_iter_items, into_iter_len}
use Rattle.middle_form.specs.ScopedViews.{scoped_code_of, scoped_sequence_of}
use Rattle.scoped_building.specs.Building.{codes}
use Rattle.guard_hoisting.specs.Hoisted.{hoisted, most_served, open_behind}
use Rattle.guard_hoisting.proofs.Sizes.{size_all, size_code}
use Rattle.guard_hoisting.proofs.hoisting.+hoisting.Given as goal

abbrev pub decreases-hoist_code : goal.decreases-hoist_code
decreases-hoist_code l = 3 * size_code l.code

abbrev pub decreases-hoist_loop : goal.decreases-hoist_loop
decreases-hoist_loop l = 2 + 3 * (size_code l.test.value + size_code l.body.value)

abbrev pub decreases-hoist_whole : goal.decreases-hoist_whole
decreases-hoist_whole l = 1 + 3 * size_code l.code.value

-- what is there, and then what comes in place of the parts that are left
abbrev pub invariant-hoist_code-loop-part : goal.invariant-hoist_code-loop-part
invariant-hoist_code-loop-part l = record {
  parts : codes l.parts.items ++ hoisted l.kinds (scoped_sequence_of (into_iter_items l.part-iterator)) l.scopes.opened.items ≡ codes l.fn.parts.items ++ hoisted l.kinds (scoped_code_of l.fn.code) l.fn.scopes.opened.items;
  opened : open_behind (scoped_sequence_of (into_iter_items l.part-iterator)) l.scopes.opened.items ≡ open_behind (scoped_code_of l.fn.code) l.fn.scopes.opened.items;
  most : max l.scopes.most (most_served l.kinds (scoped_sequence_of (into_iter_items l.part-iterator)) l.scopes.opened.items) ≡ max l.fn.scopes.most (most_served l.kinds (scoped_code_of l.fn.code) l.fn.scopes.opened.items);
  smaller : size_all (into_iter_items l.part-iterator) < size_code l.fn.code;
  long : into_iter_len l.part-iterator ≡ length (into_iter_items l.part-iterator);
}
