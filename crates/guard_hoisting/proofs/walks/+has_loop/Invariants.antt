use Rattle.std.proofs.Common.{◌≡◌, drop}
use Rattle.middle_form.specs.ScopedViews.{scoped_code_of, scoped_sequence_of}
use Rattle.guard_hoisting.specs.Ways.{has_loop}
use Rattle.guard_hoisting.proofs.walks.+has_loop.Given as goal

abbrev pub invariant-loop-part : goal.invariant-loop-part
invariant-loop-part l = has_loop (scoped_code_of l.code) ≡ has_loop (scoped_sequence_of (drop l.part-index l.part-items))
