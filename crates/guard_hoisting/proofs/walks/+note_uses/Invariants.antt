use Rattle.std.proofs.Common.{◌≡◌, drop}
use Rattle.middle_form.specs.ScopedViews.{scoped_code_of, scoped_sequence_of}
use Rattle.guard_hoisting.specs.Building.{ArePlaces}
use Rattle.guard_hoisting.specs.Ways.{uses_with}
use Rattle.guard_hoisting.proofs.walks.+note_uses.Given as goal

abbrev pub invariant-loop-part : goal.invariant-loop-part
invariant-loop-part l =
    ArePlaces l.fn.places l.fn.uses.items
    → ArePlaces l.places l.uses.items × (uses_with (scoped_sequence_of (drop l.part-index l.part-items)) l.uses.items ≡ uses_with (scoped_code_of l.code) l.fn.uses.items)
