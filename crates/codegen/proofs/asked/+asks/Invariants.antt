use Rattle.std.proofs.Common.{◌≡◌, ◌++◌, drop}
use Rattle.codegen.specs.Building.{lists}
use Rattle.middle_form.specs.Guarded.{asked_inside, asks}
use Rattle.middle_form.specs.Scoped.{plain}
use Rattle.middle_form.specs.ScopedViews.{scoped_sequence_of}
use Rattle.codegen.proofs.asked.+asks.Given as goal

abbrev pub invariant-loop-i : goal.invariant-loop-i
invariant-loop-i l =
    (l.behind.items ≡ asks (plain (scoped_sequence_of (drop l.i l.parts.items))) l.fn.behind.items)
    × (lists l.asked.items ≡ lists l.fn.asked.items ++ asked_inside (plain (scoped_sequence_of (drop l.i l.parts.items))) l.fn.behind.items)
