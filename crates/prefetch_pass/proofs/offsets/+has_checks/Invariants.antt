use Rattle.std.proofs.Common.{◌≡◌, drop}
use Rattle.middle_form.specs.ScopedViews.{scoped_code_of, scoped_sequence_of}
use Rattle.prefetch_pass.specs.Gathered.{has_checks}
use Rattle.prefetch_pass.proofs.offsets.+has_checks.Given as goal

abbrev pub invariant-loop-part : goal.invariant-loop-part
invariant-loop-part l = has_checks (scoped_code_of l.code) ≡ has_checks (scoped_sequence_of (drop l.part-index l.part-items))
