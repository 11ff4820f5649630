use Rattle.std.proofs.Common.{◌≡◌, drop, max}
use Rattle.middle_form.specs.ScopedViews.{scoped_code_of, scoped_sequence_of}
use Rattle.guard_hoisting.specs.Ways.{most_left}
use Rattle.guard_hoisting.proofs.walks.+most_left.Given as goal

abbrev pub invariant-loop-part : goal.invariant-loop-part
invariant-loop-part l = most_left (scoped_code_of l.code) ≡ max (most_left (scoped_sequence_of (drop l.part-index l.part-items))) l.most
