use Rattle.std.proofs.Common.{◌≡◌, ◌++◌, drop, length}
use Rattle.codegen.specs.Building.{back, backs, exits_of}
use Rattle.codegen.specs.Generated.{extra, first}
use Rattle.middle_form.specs.ScopedViews.{scoped_sequence_of}
use Rattle.codegen.proofs.emit.+emit.Given as goal

abbrev pub invariant-loop-i : goal.invariant-loop-i
invariant-loop-i l =
    (back l.next.items ≡ first (scoped_sequence_of (drop l.i l.parts.items)) (length (backs l.fn.blocks.items)) (back l.fn.next.items) (exits_of l.fn.exits))
    × (backs l.blocks.items ≡ backs l.fn.blocks.items ++ extra (scoped_sequence_of (drop l.i l.parts.items)) (length (backs l.fn.blocks.items)) (back l.fn.next.items) (exits_of l.fn.exits))
