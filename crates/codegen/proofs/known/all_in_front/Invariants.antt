use Rattle.std.proofs.Common.{◌≡◌, length, map}
use Rattle.codegen.specs.Building.{in_front, knows_of, lists}
use Rattle.codegen.proofs.known.all_in_front.Given as goal

abbrev pub invariant-loop-facts : goal.invariant-loop-facts
invariant-loop-facts l = (lists l.fronted.items ≡ in_front l.scope (map knows_of l.known) (lists l.yielded)) × (length l.fronted.items ≡ length l.yielded)
