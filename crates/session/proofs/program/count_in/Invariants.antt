use Rattle.std.proofs.Common.{◌≡◌, ◌+◌, ◌≤◌, drop}
use Rattle.session.specs.Keeping.{count_of}
use Rattle.session.proofs.program.count_in.Given as goal

abbrev pub invariant-loop-hold : goal.invariant-loop-hold
invariant-loop-hold l = (l.count + count_of l.object (drop l.hold-index l.holds) ≡ count_of l.object l.holds) × (l.count ≤ l.hold-index)
