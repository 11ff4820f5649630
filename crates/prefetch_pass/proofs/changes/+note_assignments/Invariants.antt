use Rattle.std.proofs.Common.{◌≡◌, ℕ, drop}
use Rattle.middle_form.specs.ScopedViews.{scoped_code_of, scoped_sequence_of}
use Rattle.prefetch_pass.specs.Gathered.{changes_among}
use Rattle.prefetch_pass.specs.Raised.{changes_with}
use Rattle.prefetch_pass.proofs.changes.+note_assignments.Given as goal

-- for each register, those of the parts that are left, beside those so far
abbrev pub invariant-loop-part : goal.invariant-loop-part
invariant-loop-part l =
    (r : ℕ) → changes_with r (scoped_sequence_of (drop l.part-index l.part-items)) (changes_among r l.assignments.items) ≡ changes_with r (scoped_code_of l.code) (changes_among r l.fn.assignments.items)
