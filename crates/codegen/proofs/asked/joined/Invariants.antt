use Rattle.std.proofs.Common.{◌≡◌, drop}
use Rattle.middle_form.specs.Guarded.{joined}
use Rattle.codegen.proofs.asked.joined.Given as goal

abbrev pub invariant-loop-i : goal.invariant-loop-i
invariant-loop-i l = l.others.items ≡ joined (drop l.i l.some) l.fn.others.items
