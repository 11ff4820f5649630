use Rattle.std.proofs.Common.{◌≡◌, ℕ, List, drop}
use Rattle.middle_form.specs.ScopedViews.{scoped_code_of, scoped_sequence_of}
use Rattle.prefetch_pass.specs.Gathered.{AreRaised}
use Rattle.prefetch_pass.specs.Raised.{offsets_with}
use Rattle.prefetch_pass.proofs.offsets.+note_offsets.Given as goal

-- the loops stay, and the offsets of the parts that are left, beside those so far, are those of the code
abbrev pub invariant-loop-part : goal.invariant-loop-part
invariant-loop-part l =
    (l.loops.items ≡ l.fn.loops.items)
    × ((rs : List ℕ) → AreRaised l.fn.loops.items rs → offsets_with (scoped_sequence_of (drop l.part-index l.part-items)) rs l.offsets.items ≡ offsets_with (scoped_code_of l.code) rs l.fn.offsets.items)
