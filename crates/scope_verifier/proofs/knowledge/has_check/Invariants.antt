use Rattle.std.proofs.Common.{◌≡◌, drop}
use Rattle.std.specs.List.{list_any}
use Rattle.scope_verifier.specs.Shown.{is_check}
use Rattle.scope_verifier.proofs.knowledge.has_check.Given as goal

abbrev pub invariant-loop-check : goal.invariant-loop-check
invariant-loop-check l = list_any (is_check l.since l.written l.array_written l.array) l.list ≡ list_any (is_check l.since l.written l.array_written l.array) (drop l.check-index l.list)
