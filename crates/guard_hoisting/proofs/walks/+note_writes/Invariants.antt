use Rattle.std.proofs.Common.{◌≡◌, ℕ, ◌||◌, drop}
use Rattle.std.specs.Prelude.{nat_eq}
use Rattle.std.specs.HashSet.{contains}
use Rattle.middle_form.specs.Discipline.{writes}
use Rattle.middle_form.specs.ScopedViews.{scoped_code_of, scoped_sequence_of}
use Rattle.guard_hoisting.proofs.walks.+note_writes.Given as goal

-- for each register, whether it is written so far, or by the parts that are left
abbrev pub invariant-loop-part : goal.invariant-loop-part
invariant-loop-part l =
    (r : ℕ) → contains nat_eq l.written r || writes (scoped_sequence_of (drop l.part-index l.part-items)) r ≡ contains nat_eq l.fn.written r || writes (scoped_code_of l.code) r
