use Rattle.std.proofs.Common.{◌≡◌, drop}
use Rattle.middle_form.specs.ScopedViews.{scoped_code_of, scoped_sequence_of}
use Rattle.guard_hoisting.specs.Ways.{is_quiet}
use Rattle.guard_hoisting.proofs.walks.+is_quiet.Given as goal

abbrev pub invariant-loop-part : goal.invariant-loop-part
invariant-loop-part l = is_quiet (scoped_code_of l.code) ≡ is_quiet (scoped_sequence_of (drop l.part-index l.part-items))
