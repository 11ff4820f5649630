use Rattle.std.proofs.Common.{◌≡◌, ℕ, ◌<◌, None}
use Rattle.world_semantics.specs.Programs.{hold_at}
use Rattle.world_actors.proofs.program.first_of_holds.Given as goal

abbrev pub invariant-loop-scope : goal.invariant-loop-scope
invariant-loop-scope l = (j : ℕ) → j < l.scope → hold_at l.holds j ≡ None
